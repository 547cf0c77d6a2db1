-- The extended algorithm of Euclid in a ring with sizes, by left multiples.
use Rattle.std.proofs.Common.{◌≡◌, ℕ, ◌+◌, ◌<◌, ◌≤◌, sym, ◌∙◌, ap, ap₂, refl, ⊎_elim, arith}
use Rattle.std.proofs.lemmas.Bool.{cases_lt}
use Rattle.ring_core.proofs.Carrier.{RingOn, add_zero, add_cancel, zero_mul, mul_zero, neg_mul, add_exchange, mul_neg, from_sum}
use Rattle.euclid_theory.proofs.Sizes.{minus, HasSizes, minus_small, minus_keeps, no_multiple, no_divisors}

-- `(t, w)` is `x (su, wu) + y (sv, wv)`.
pub record Reached {M : Type 0} (R : RingOn M) (su wu sv wv t w : M) : Type 0 where
  pub x : M
  pub y : M
  pub left : t ≡ R.add (R.mul x su) (R.mul y sv)
  pub right : w ≡ R.add (R.mul x wu) (R.mul y wv)

-- Two neighbours in the chain of remainders of `a` and `b`, with their cofactors of `a` and of `b`.
pub record Chain {M : Type 0} (R : RingOn M) (size : M → ℕ) (a b u v su sv wu wv : M) : Type 0 where
  pub first : u ≡ R.add (R.mul su a) (R.mul wu b)
  pub second : v ≡ R.add (R.mul sv a) (R.mul wv b)
  pub reach : (t w : M) → Reached R su wu sv wv t w
  pub sizes : size sv + size u ≡ size b + 1
  pub rising : size su < size sv
  pub falling : size v < size u

module _ {M : Type 0} (R : RingOn M) where
  -- x (n + q p) + y p = (x q + y) p + x n
  turned : (x y q n p : M) → R.add (R.mul x (R.add n (R.mul q p))) (R.mul y p) ≡ R.add (R.mul (R.add (R.mul x q) y) p) (R.mul x n)
  turned x y q n p =
      ap (λ t. R.add t (R.mul y p)) (R.mul_add x n (R.mul q p) ∙ ap (R.add (R.mul x n)) (sym (R.mul_assoc x q p)))
      ∙ R.add_assoc _ _ _ ∙ ap (R.add (R.mul x n)) (sym (R.add_mul (R.mul x q) y p)) ∙ R.add_comm _ _

  -- (n + q p) a + (m + q o) b = (n a + m b) + q (p a + o b)
  gathered : (a b q n p m o : M) → R.add (R.mul (R.add n (R.mul q p)) a) (R.mul (R.add m (R.mul q o)) b) ≡ R.add (R.add (R.mul n a) (R.mul m b)) (R.mul q (R.add (R.mul p a) (R.mul o b)))
  gathered a b q n p m o =
      ap₂ R.add
      (R.add_mul n (R.mul q p) a ∙ ap (R.add (R.mul n a)) (R.mul_assoc q p a))
      (R.add_mul m (R.mul q o) b ∙ ap (R.add (R.mul m b)) (R.mul_assoc q o b))
      ∙ add_exchange R _ _ _ _
      ∙ ap (R.add (R.add (R.mul n a) (R.mul m b))) (sym (R.mul_add q (R.mul p a) (R.mul o b)))

  -- (x s + y t) a + (x w + y o) b = x (s a + w b) + y (t a + o b)
  collected : (a b x y s t w o : M) → R.add (R.mul (R.add (R.mul x s) (R.mul y t)) a) (R.mul (R.add (R.mul x w) (R.mul y o)) b) ≡ R.add (R.mul x (R.add (R.mul s a) (R.mul w b))) (R.mul y (R.add (R.mul t a) (R.mul o b)))
  collected a b x y s t w o =
      ap₂ R.add
      (R.add_mul _ _ a ∙ ap₂ R.add (R.mul_assoc x s a) (R.mul_assoc y t a))
      (R.add_mul _ _ b ∙ ap₂ R.add (R.mul_assoc x w b) (R.mul_assoc y o b))
      ∙ add_exchange R _ _ _ _
      ∙ ap₂ R.add (sym (R.mul_add x _ _)) (sym (R.mul_add y _ _))

  right_cancel : (x y s : M) → R.add x s ≡ R.add y s → x ≡ y
  right_cancel x y s e = add_cancel R s x y (R.add_comm s x ∙ e ∙ R.add_comm y s)

module _ {M : Type 0} (R : RingOn M) (size : M → ℕ) (h : HasSizes R size) (a b : M) where
  pub chain_start : (q rest : M) → a ≡ R.add (R.mul q b) rest → size rest < size b → Chain R size a b b rest R.zero R.one R.one (R.neg q)
  chain_start q rest e lower = record {
    first = sym (ap₂ R.add (zero_mul R a) (R.one_mul b) ∙ R.zero_add b);
    second =
        from_sum R rest (R.mul q b) a (R.add_comm _ _ ∙ sym e) ∙ ap₂ R.add (sym (R.one_mul a)) (sym (neg_mul R q b));
    reach = λ t w. record {
      x = R.add w (R.mul t q);
      y = t;
      left = sym (ap₂ R.add (mul_zero R _) (R.mul_one t) ∙ R.zero_add t);
      right =
          from_sum R w (R.mul t q) (R.add w (R.mul t q)) refl
          ∙ ap₂ R.add (sym (R.mul_one _)) (sym (mul_neg R t q));
    };
    sizes = let one : size R.one ≡ 1 = h.unit in omega arith;
    rising = let one : size R.one ≡ 1 = h.unit in let none : size R.zero ≡ 0 = h.none in omega arith;
    falling = lower;
  }

  module _ (u v su sv wu wv : M) (c : Chain R size a b u v su sv wu wv) where
    -- the size of the next cofactor
    next_size : (q next : M) → size u + 1 ≡ size q + size v → 0 < size q → su ≡ R.add next (R.mul q sv) → size next + 1 ≡ size q + size sv
    next_size q next sizes some turn =
        let rising : size su < size sv = c.rising in
        let all : size (R.mul q sv) + 1 ≡ size q + size sv = h.product q sv some (omega arith) in
        let is : next ≡ minus R su (R.mul q sv) = from_sum R next (R.mul q sv) su (sym turn) in
        let keeps : size (minus R su (R.mul q sv)) ≡ size (R.mul q sv) = minus_keeps R size h su (R.mul q sv) (omega arith) in
        let same : size next ≡ size (minus R su (R.mul q sv)) = ap size is in
        omega arith

    -- the size of a quotient
    quotient_size : (q rest : M) → 0 < size v → u ≡ R.add (R.mul q v) rest → size rest < size v → size u + 1 ≡ size q + size v
    quotient_size q rest pos e lower =
        let falling : size v < size u = c.falling in
        let is : R.mul q v ≡ minus R u rest = from_sum R (R.mul q v) rest u (sym e) in
        let back : size u ≡ size (R.add (R.mul q v) rest) = ap size e in
        ⊎_elim
        (λ (none : size q < 1).
        let zero_is : q ≡ R.zero = h.empty q (omega arith) in
        let small : size u ≡ size rest = ap size (e ∙ ap (λ x. R.add x rest) (ap (λ x. R.mul x v) zero_is ∙ zero_mul R v) ∙ R.zero_add rest) in
        absurd (omega arith))
        (λ (some : 1 ≤ size q).
        let all : size (R.mul q v) + 1 ≡ size q + size v = h.product q v some pos in
        let most : size (R.add (R.mul q v) rest) ≤ size (R.mul q v) = h.sum (R.mul q v) rest (size (R.mul q v)) (omega arith) (omega arith) in
        let least : size (minus R u rest) ≤ size u = minus_small R size h u rest (size u) (omega arith) (omega arith) in
        let same : size (R.mul q v) ≡ size (minus R u rest) = ap size is in
        omega arith)
        (cases_lt (size q) 1)

    pub chain_step : (q rest next past : M) → 0 < size v → u ≡ R.add (R.mul q v) rest → size rest < size v → su ≡ R.add next (R.mul q sv) → wu ≡ R.add past (R.mul q wv)
        → Chain R size a b v rest sv next wv past
    chain_step q rest next past pos e lower turn under =
        let sizes : size sv + size u ≡ size b + 1 = c.sizes in
        let falling : size v < size u = c.falling in
        let quotient : size u + 1 ≡ size q + size v = quotient_size q rest pos e lower in
        let cofactor : size next + 1 ≡ size q + size sv = next_size q next quotient (omega arith) turn in
        record {
          first = c.second;
          second =
              right_cancel R rest (R.add (R.mul next a) (R.mul past b)) (R.mul q v)
              (R.add_comm _ _ ∙ sym e ∙ c.first
              ∙ ap₂ R.add (ap (λ x. R.mul x a) turn) (ap (λ x. R.mul x b) under)
              ∙ gathered R a b q next sv past wv
              ∙ ap (λ x. R.add (R.add (R.mul next a) (R.mul past b)) (R.mul q x)) (sym c.second));
          reach = λ t w.
              let r = c.reach t w in
              record {
                x = R.add (R.mul r.x q) r.y;
                y = r.x;
                left = r.left ∙ ap (λ x. R.add (R.mul r.x x) (R.mul r.y sv)) turn ∙ turned R r.x r.y q next sv;
                right = r.right ∙ ap (λ x. R.add (R.mul r.x x) (R.mul r.y wv)) under ∙ turned R r.x r.y q past wv;
              };
          sizes = omega arith;
          rising = omega arith;
          falling = lower;
        }

    -- a combination of `a` and `b` by one of `u` and `v`
    pub reached_sum : (t w : M) → R.add (R.mul t a) (R.mul w b) ≡ R.add (R.mul (c.reach t w).x u) (R.mul (c.reach t w).y v)
    reached_sum t w =
        let r = c.reach t w in
        ap₂ R.add (ap (λ x. R.mul x a) r.left) (ap (λ x. R.mul x b) r.right)
        ∙ collected R a b r.x r.y su sv wu wv
        ∙ ap₂ R.add (ap (R.mul r.x) (sym c.first)) (ap (R.mul r.y) (sym c.second))

    module _ (end : size v ≡ 0) where
      no_second : (x y : M) → R.add (R.mul x u) (R.mul y v) ≡ R.mul x u
      no_second x y =
          ap (R.add (R.mul x u)) (ap (R.mul y) (h.empty v end) ∙ mul_zero R y) ∙ add_zero R (R.mul x u)

      -- `u` divides every combination on the right
      pub combination : (t w : M) → R.add (R.mul t a) (R.mul w b) ≡ R.mul (c.reach t w).x u
      combination t w = reached_sum t w ∙ no_second (c.reach t w).x (c.reach t w).y

      pub divides_left : a ≡ R.mul (c.reach R.one R.zero).x u
      divides_left = sym (ap₂ R.add (R.one_mul a) (zero_mul R b) ∙ add_zero R a) ∙ combination R.one R.zero

      pub divides_right : b ≡ R.mul (c.reach R.zero R.one).x u
      divides_right = sym (ap₂ R.add (zero_mul R a) (R.one_mul b) ∙ R.zero_add b) ∙ combination R.zero R.one

      pub last_relation : R.add (R.mul sv a) (R.mul wv b) ≡ R.zero
      last_relation = sym c.second ∙ h.empty v end

      -- every relation of `a` and `b` is a left multiple of the last one
      pub relation_multiple : (t w : M) → R.add (R.mul t a) (R.mul w b) ≡ R.zero → t ≡ R.mul (c.reach t w).y sv
      relation_multiple t w e =
          let r = c.reach t w in
          let falling : size v < size u = c.falling in
          let none : r.x ≡ R.zero = no_divisors R size h r.x u (omega arith) (sym (combination t w) ∙ e) in
          r.left ∙ ap (λ x. R.add x (R.mul r.y sv)) (ap (λ x. R.mul x su) none ∙ zero_mul R su) ∙ R.zero_add _

      -- a small relation is none
      pub no_relation : (t w : M) → size t < size sv → R.add (R.mul t a) (R.mul w b) ≡ R.zero → t ≡ R.zero
      no_relation t w small e =
          let r = c.reach t w in
          let is : size t ≡ size (R.mul r.y sv) = ap size (relation_multiple t w e) in
          relation_multiple t w e ∙ ap (λ x. R.mul x sv) (no_multiple R size h r.y sv (omega arith)) ∙ zero_mul R sv
