-- The monic common divisor, its cofactors and the monic least multiple: each is the only one, and the last
-- link of Euclid's chain gives them.
use Rattle.std.proofs.Common.{◌≡◌, ℕ, zero, suc, ◌+◌, ◌-◌, ◌<◌, ◌≤◌, sym, ◌∙◌, ap, ap₂, subst, ⊎_elim, arith}
use Rattle.std.proofs.lemmas.Bool.{cases_lt}
use Rattle.ring_core.proofs.Carrier.{RingOn, add_zero, zero_mul, mul_zero, neg_mul, mul_neg, neg_only, minus_same, add_exchange, neg_sum, from_sum}
use Rattle.euclid_theory.proofs.Sizes.{minus, minus_plus, mul_minus, HasSizes, minus_small, no_multiple, no_divisors, cancel_right, divide}
use Rattle.euclid_theory.proofs.Chains.{Chain, chain_start, chain_step, combination, divides_left, divides_right, last_relation, relation_multiple, no_relation}

pub record Common {M : Type 0} (R : RingOn M) (size : M → ℕ) (Monic : M → Type 0) (a b d s w : M) : Type 0 where
  pub sum : d ≡ R.add (R.mul s a) (R.mul w b)
  pub x : M
  pub left : a ≡ R.mul x d
  pub y : M
  pub right : b ≡ R.mul y d
  pub monic : 0 < size d → Monic d

pub record Multiple {M : Type 0} (R : RingOn M) (size : M → ℕ) (Monic : M → Type 0) (a b m s w : M) : Type 0 where
  pub left : m ≡ R.mul s a
  pub right : m ≡ R.mul w b
  pub monic : Monic m
  pub nonzero : 0 < size m
  pub least : (n t v : M) → 0 < size n → n ≡ R.mul t a → n ≡ R.mul v b → size m ≤ size n

-- What the last link gives: `d` divides both, `d = s a + w b`, and `t a + v b = 0` is the relation of which
-- every other is a left multiple.
pub record Last {M : Type 0} (R : RingOn M) (size : M → ℕ) (a b d s t w v : M) : Type 0 where
  pub x : M
  pub left : a ≡ R.mul x d
  pub y : M
  pub right : b ≡ R.mul y d
  pub sum : d ≡ R.add (R.mul s a) (R.mul w b)
  pub relation : R.add (R.mul t a) (R.mul v b) ≡ R.zero
  pub all : (n o : M) → R.mul n a ≡ R.mul o b → (e : M) × (n ≡ R.mul e t)
  pub nonzero : 0 < size d
  pub sizes : size t + size d ≡ size b + 1
  pub small : size s < size t

-- The end of the chain.
pub record Ended {M : Type 0} (R : RingOn M) (size : M → ℕ) (a b : M) : Type 0 where
  pub u : M
  pub v : M
  pub su : M
  pub sv : M
  pub wu : M
  pub wv : M
  pub chain : Chain R size a b u v su sv wu wv
  pub end : size v ≡ 0

module _ {M : Type 0} (R : RingOn M) (size : M → ℕ) (h : HasSizes R size) where
  chain_end : (a b : M) (n : ℕ) (u v su sv wu wv : M) → size v < n → Chain R size a b u v su sv wu wv → Ended R size a b
  chain_end a b zero u v su sv wu wv l c = absurd (omega arith)
  chain_end a b (suc n) u v su sv wu wv l c =
      ⊎_elim
      (λ (last : size v < 1). record { u = u; v = v; su = su; sv = sv; wu = wu; wv = wv; chain = c; end = omega arith })
      (λ (more : 1 ≤ size v).
      let d = divide R size h (size u + 1) u v (omega arith) more in
      let next = minus R su (R.mul d.quotient sv) in
      let past = minus R wu (R.mul d.quotient wv) in
      chain_end a b n v d.rest sv next wv past (omega (arith, l, d.lower))
      (chain_step R size h a b u v su sv wu wv c d.quotient d.rest next past more d.sum d.lower
      (sym (minus_plus R su (R.mul d.quotient sv))) (sym (minus_plus R wu (R.mul d.quotient wv)))))
      (cases_lt (size v) 1)

  pub chain_of : (a b : M) → 0 < size b → Ended R size a b
  chain_of a b pos =
      let d = divide R size h (size a + 1) a b (omega arith) pos in
      chain_end a b (size d.rest + 1) b d.rest R.zero R.one R.one (R.neg d.quotient) (omega arith) (chain_start R size h a b d.quotient d.rest d.sum d.lower)

  pub last_of : (a b u v su sv wu wv : M) → Chain R size a b u v su sv wu wv → size v ≡ 0 → Last R size a b u su sv wu wv
  last_of a b u v su sv wu wv c end =
      record {
        x = (c.reach R.one R.zero).x;
        left = divides_left R size h a b u v su sv wu wv c end;
        y = (c.reach R.zero R.one).x;
        right = divides_right R size h a b u v su sv wu wv c end;
        sum = c.first;
        relation = last_relation R size h a b u v su sv wu wv c end;
        all = λ n o e. (
          (c.reach n (R.neg o)).y,
          relation_multiple R size h a b u v su sv wu wv c end n (R.neg o)
              (ap₂ R.add e (neg_mul R o b) ∙ R.add_neg (R.mul o b)),
        );
        nonzero = omega (arith, c.falling);
        sizes = c.sizes;
        small = c.rising;
      }

  -- a common divisor divides every combination
  pub divides_sum : (a b d x y s w : M) → a ≡ R.mul x d → b ≡ R.mul y d → R.add (R.mul s a) (R.mul w b) ≡ R.mul (R.add (R.mul s x) (R.mul w y)) d
  divides_sum a b d x y s w left right =
      ap₂ R.add (ap (R.mul s) left ∙ sym (R.mul_assoc s x d)) (ap (R.mul w) right ∙ sym (R.mul_assoc w y d)) ∙ sym (R.add_mul _ _ d)

  -- a factor of what isn't zero isn't zero
  left_factor : (e d : M) → 0 < size (R.mul e d) → 0 < size e
  left_factor e d pos =
      ⊎_elim
      (λ (none : size e < 1).
      let gone : size (R.mul e d) ≡ 0 = ap size (ap (λ x. R.mul x d) (h.empty e (omega arith)) ∙ zero_mul R d) ∙ h.none in
      absurd (omega arith))
      (λ (more : 1 ≤ size e). more)
      (cases_lt (size e) 1)

  nonzero_factor : (e d : M) → 0 < size (R.mul e d) → 0 < size d
  nonzero_factor e d pos =
      ⊎_elim
      (λ (none : size d < 1).
      let gone : size (R.mul e d) ≡ 0 = ap size (ap (R.mul e) (h.empty d (omega arith)) ∙ mul_zero R e) ∙ h.none in
      absurd (omega arith))
      (λ (more : 1 ≤ size d). more)
      (cases_lt (size d) 1)

  factor_size : (e d : M) → 0 < size (R.mul e d) → 0 < size d → size d ≤ size (R.mul e d)
  factor_size e d pos some = let more = left_factor e d pos in omega (arith, more, h.product e d more some)

  difference_relation : (a b s w t v : M) → R.add (R.mul s a) (R.mul w b) ≡ R.add (R.mul t a) (R.mul v b) → R.add (R.mul (minus R s t) a) (R.mul (minus R w v) b) ≡ R.zero
  difference_relation a b s w t v e =
      ap₂ R.add (mul_minus R s t a) (mul_minus R w v b) ∙ add_exchange R _ _ _ _
      ∙ ap₂ R.add e (sym (neg_sum R (R.mul t a) (R.mul v b))) ∙ R.add_neg _

  module _ (Monic : M → Type 0) (tops : (x y : M) → Monic x → Monic y → size x ≡ size y → 0 < size x → size (minus R x y) < size x) where
    monic_multiples : (d g e o : M) → Monic d → Monic g → 0 < size d → d ≡ R.mul e g → g ≡ R.mul o d → d ≡ g
    monic_multiples d g e o md mg pos left right =
        let one : size d ≡ size (R.mul e g) = ap size left in
        let two : size g ≡ size (R.mul o d) = ap size right in
        let some : 0 < size g = nonzero_factor e g (omega arith) in
        let less : size (minus R d g) < size d = tops d g md mg (omega (arith, one, two, factor_size e g (omega arith) some, factor_size o d (omega arith) pos)) pos in
        let is : minus R d g ≡ R.mul (minus R R.one o) d =
        sym (mul_minus R R.one o d ∙ ap₂ (minus R) (R.one_mul d) (sym right)) in
        let same : size (minus R d g) ≡ size (R.mul (minus R R.one o) d) = ap size is in
        minus_same R d g (is ∙ ap (λ x. R.mul x d) (no_multiple R size h (minus R R.one o) d (omega arith)) ∙ zero_mul R d)

    pub divisor_same : (a b d s w g t v : M) → Common R size Monic a b d s w → Common R size Monic a b g t v → d ≡ g
    divisor_same a b d s w g t v p q =
        let e = R.add (R.mul s q.x) (R.mul w q.y) in
        let o = R.add (R.mul t p.x) (R.mul v p.y) in
        let left : d ≡ R.mul e g = p.sum ∙ divides_sum a b g q.x q.y s w q.left q.right in
        let right : g ≡ R.mul o d = q.sum ∙ divides_sum a b d p.x p.y t v p.left p.right in
        ⊎_elim
        (λ (none : size d < 1).
        let gone : d ≡ R.zero = h.empty d (omega arith) in
        gone ∙ sym (right ∙ ap (R.mul o) gone ∙ mul_zero R o))
        (λ (some : 1 ≤ size d).
        let pos : 0 < size (R.mul e g) = subst (λ n. 0 < n) (ap size left) some in
        monic_multiples d g e o (p.monic some) (q.monic (nonzero_factor e g pos)) some left right)
        (cases_lt (size d) 1)

    pub cofactors_same : (a b d s w g t v : M) → 0 < size b → Common R size Monic a b d s w → Common R size Monic a b g t v
        → size s + size d ≤ size b → size t + size g ≤ size b → (s ≡ t) × (w ≡ v)
    cofactors_same a b d s w g t v pos p q small low =
        let same : d ≡ g = divisor_same a b d s w g t v p q in
        let sizes : size d ≡ size g = ap size same in
        let end = chain_of a b pos in
        let c = end.chain in
        let links : size end.sv + size end.u ≡ size b + 1 = c.sizes in
        let falling : size end.v < size end.u = c.falling in
        let above : b ≡ R.mul p.y d = p.right in
        let under : d ≡ R.mul (c.reach s w).x end.u = p.sum ∙ combination R size h a b end.u end.v end.su end.sv end.wu end.wv c end.end s w in
        let big : size d ≡ size (R.mul (c.reach s w).x end.u) = ap size under in
        let whole : size b ≡ size (R.mul p.y d) = ap size above in
        let some : 0 < size d = nonzero_factor p.y d (omega arith) in
        let least : size end.u ≤ size (R.mul (c.reach s w).x end.u) = factor_size (c.reach s w).x end.u (omega arith) (omega arith) in
        let relation = difference_relation a b s w t v (sym p.sum ∙ same ∙ q.sum) in
        let few : size (minus R s t) ≤ size b - size d = minus_small R size h s t (size b - size d) (omega arith) (omega arith) in
        let none : minus R s t ≡ R.zero = no_relation R size h a b end.u end.v end.su end.sv end.wu end.wv c end.end (minus R s t) (minus R w v) (omega arith) relation in
        let other : R.mul (minus R w v) b ≡ R.zero =
        sym (ap (λ x. R.add (R.mul x a) (R.mul (minus R w v) b)) none ∙ ap (λ x. R.add x (R.mul (minus R w v) b)) (zero_mul R a) ∙ R.zero_add _)
        ∙ relation in
        (minus_same R s t none, minus_same R w v (no_divisors R size h (minus R w v) b pos other))

    pub multiple_same : (a b m s w n t v : M) → 0 < size a → 0 < size b → Multiple R size Monic a b m s w → Multiple R size Monic a b n t v → (m ≡ n) × (s ≡ t) × (w ≡ v)
    multiple_same a b m s w n t v pa pb p q =
        let up : size m ≤ size n = p.least n t v q.nonzero q.left q.right in
        let down : size n ≤ size m = q.least m s w p.nonzero p.left p.right in
        let less : size (minus R m n) < size m = tops m n p.monic q.monic (omega arith) p.nonzero in
        let left : minus R m n ≡ R.mul (minus R s t) a = sym (mul_minus R s t a ∙ sym (ap₂ (minus R) p.left q.left)) in
        let right : minus R m n ≡ R.mul (minus R w v) b = sym (mul_minus R w v b ∙ sym (ap₂ (minus R) p.right q.right)) in
        let same : m ≡ n =
        ⊎_elim
        (λ (none : size (minus R m n) < 1). minus_same R m n (h.empty (minus R m n) (omega arith)))
        (λ (some : 1 ≤ size (minus R m n)).
        let least : size m ≤ size (minus R m n) = p.least (minus R m n) (minus R s t) (minus R w v) some left right in
        absurd (omega arith))
        (cases_lt (size (minus R m n)) 1) in
        (same, cancel_right R size h s t a pa (sym p.left ∙ same ∙ q.left), cancel_right R size h w v b pb (sym p.right ∙ same ∙ q.right))

    -- every common multiple is a left multiple of the least
    pub multiple_divides : (a b m s w n t v : M) → Multiple R size Monic a b m s w → n ≡ R.mul t a → n ≡ R.mul v b → (q : M) × (n ≡ R.mul q m)
    multiple_divides a b m s w n t v p left right =
        let d = divide R size h (size n + 1) n m (omega arith) p.nonzero in
        let q = d.quotient in
        let lower : size d.rest < size m = d.lower in
        let taken : (x y c : M) → n ≡ R.mul x c → m ≡ R.mul y c → d.rest ≡ R.mul (minus R x (R.mul q y)) c = λ x y c e f.
        from_sum R d.rest (R.mul q m) n (R.add_comm _ _ ∙ sym d.sum)
        ∙ ap₂ (minus R) e (ap (R.mul q) f ∙ sym (R.mul_assoc q y c)) ∙ sym (mul_minus R x (R.mul q y) c) in
        ⊎_elim
        (λ (none : size d.rest < 1).
        (q, d.sum ∙ ap (R.add (R.mul q m)) (h.empty d.rest (omega arith)) ∙ add_zero R (R.mul q m)))
        (λ (some : 1 ≤ size d.rest).
        let least : size m ≤ size d.rest = p.least d.rest (minus R t (R.mul q s)) (minus R v (R.mul q w)) some (taken t s a left p.left) (taken v w b right p.right) in
        absurd (omega arith))
        (cases_lt (size d.rest) 1)

    -- the last link, times a unit `e` that makes it monic
    module _ (a b u su sv wu wv : M) (c : Last R size a b u su sv wu wv) (e i : M) (unit : size e ≡ 1) (inverse : R.mul i e ≡ R.one) where
      unit_size : (x : M) → size (R.mul e x) ≡ size x
      unit_size x =
          ⊎_elim
          (λ (none : size x < 1).
          let gone : size (R.mul e x) ≡ 0 = ap size (ap (R.mul e) (h.empty x (omega arith)) ∙ mul_zero R e) ∙ h.none in
          omega arith)
          (λ (some : 1 ≤ size x).
          let all : size (R.mul e x) + 1 ≡ size e + size x = h.product e x (omega arith) some in
          omega arith)
          (cases_lt (size x) 1)

      undone : (x y : M) → R.mul x y ≡ R.mul (R.mul x i) (R.mul e y)
      undone x y =
          sym (R.mul_assoc x i (R.mul e y) ∙ ap (R.mul x) (sym (R.mul_assoc i e y) ∙ ap (λ z. R.mul z y) inverse ∙ R.one_mul y))

      pub common_from : Monic (R.mul e u) → Common R size Monic a b (R.mul e u) (R.mul e su) (R.mul e wu)
      common_from monic = record {
        sum = ap (R.mul e) c.sum ∙ R.mul_add e _ _ ∙ ap₂ R.add (sym (R.mul_assoc e su a)) (sym (R.mul_assoc e wu b));
        x = R.mul c.x i;
        left = c.left ∙ undone c.x u;
        y = R.mul c.y i;
        right = c.right ∙ undone c.y u;
        monic = λ _. monic;
      }

      pub cofactor_small : size (R.mul e su) + size (R.mul e u) ≤ size b
      cofactor_small =
          let one : size (R.mul e su) ≡ size su = unit_size su in
          let two : size (R.mul e u) ≡ size u = unit_size u in
          let rising : size su < size sv = c.small in
          let sizes : size sv + size u ≡ size b + 1 = c.sizes in
          omega arith

      pub multiple_from : (m : M) → m ≡ R.mul e (R.mul sv a) → 0 < size a → Monic m → Multiple R size Monic a b m (R.mul e sv) (R.neg (R.mul e wv))
      multiple_from m is pos monic =
          let rising : size su < size sv = c.small in
          let product : size (R.mul sv a) + 1 ≡ size sv + size a = h.product sv a (omega arith) pos in
          let whole : size m ≡ size (R.mul sv a) = ap size is ∙ unit_size (R.mul sv a) in
          let other : R.mul sv a ≡ R.neg (R.mul wv b) = neg_only R (R.mul wv b) (R.mul sv a) (R.add_comm _ _ ∙ c.relation) in
          record {
            left = is ∙ sym (R.mul_assoc e sv a);
            right = is ∙ ap (R.mul e) other ∙ mul_neg R e (R.mul wv b) ∙ ap R.neg (sym (R.mul_assoc e wv b)) ∙ sym (neg_mul R (R.mul e wv) b);
            monic = monic;
            nonzero = omega arith;
            least = λ n t o some left right.
                let r = c.all t o (sym left ∙ right) in
                let tall : size n ≡ size (R.mul t a) = ap size left in
                let up : size t ≡ size (R.mul r.0 sv) = ap size r.1 in
                let yes : 0 < size t = left_factor t a (omega arith) in
                let large : size sv ≤ size (R.mul r.0 sv) = factor_size r.0 sv (omega arith) (omega arith) in
                let top : size (R.mul t a) + 1 ≡ size t + size a = h.product t a yes pos in
                omega arith;
          }
