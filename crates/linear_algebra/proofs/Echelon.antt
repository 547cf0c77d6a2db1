-- Rows in the order of their leads: independence, leads, and that their span determines them.
use Rattle.std.proofs.Common.{◌≡◌, ◌≢◌, ℕ, zero, suc, ◌<◌, ◌≤◌, ◌⊎◌, inl, inr, nat_lt, sym, ◌∙◌, ap, arith, ltb-true, ltb-false}
use Rattle.ring_core.proofs.Carrier.{RingOn, zero_mul, mul_zero, minus_same}
use Rattle.linear_algebra.proofs.Sums.{combine, total_zero, total_single, by_bool, same_or_other}
use Rattle.linear_algebra.proofs.Spans.{Spans, minus_self, span_minus, span_row}

-- `n` rows with rising leads `at`, one at each lead, zero above it and at the leads of the other rows.
pub record Rising {M : Type 0} (R : RingOn M) (n : ℕ) (at : ℕ → ℕ) (rows : ℕ → ℕ → M) : Type 0 where
  pub rising : (i k : ℕ) → i < k → k < n → at i < at k
  pub one : (i : ℕ) → i < n → rows i (at i) ≡ R.one
  pub above : (i k : ℕ) → i < n → at i < k → rows i k ≡ R.zero
  pub apart : (i k : ℕ) → i < n → k < n → (i ≡ k → ⊥) → rows i (at k) ≡ R.zero

-- Some place below `n` has the value, or none has.
pub find_place : (n : ℕ) (at : ℕ → ℕ) (t : ℕ) → ((i : ℕ) × (i < n) × (at i ≡ t)) ⊎ ((i : ℕ) → i < n → at i ≡ t → ⊥)
find_place zero at t = inr (λ i l e. omega arith)
find_place (suc n) at t = elim (same_or_other (at n) t) [
  | inl e ↦ inl (n, omega arith, e)
  | inr d ↦ elim (find_place n at t) [
    | inl s ↦ inl (s.0, omega (arith, s.1), s.2)
    | inr none ↦ inr (λ i l e. elim (same_or_other i n) [
      | inl q ↦ d (ap at (sym q) ∙ e)
      | inr f ↦ none i (omega arith) e
    ])
  ]
]

module _ {M : Type 0} (R : RingOn M) (n : ℕ) (at : ℕ → ℕ) (rows : ℕ → ℕ → M) (h : Rising R n at rows) where
  -- a combination has at a lead the coefficient of the row there
  at_lead : (c : ℕ → M) (k : ℕ) → k < n → combine R n c rows (at k) ≡ c k
  at_lead c k l =
      total_single R n k _ l (λ i b ne. ap (R.mul (c i)) (h.apart i k b l ne) ∙ mul_zero R (c i))
      ∙ ap (R.mul (c k)) (h.one k l) ∙ R.mul_one (c k)

  -- a row has at most one list of coefficients
  pub one_combination : (c d : ℕ → M) → ((j : ℕ) → combine R n c rows j ≡ combine R n d rows j) → (i : ℕ) → i < n → c i ≡ d i
  one_combination c d e i l = sym (at_lead c i l) ∙ e (at i) ∙ at_lead d i l

  pub rising_zero : (x : ℕ → M) → Spans R n rows x → ((k : ℕ) → k < n → x (at k) ≡ R.zero) → (j : ℕ) → x j ≡ R.zero
  rising_zero x s z j = s.is j ∙ total_zero R n _ (λ i l.
      ap (λ a. R.mul a (rows i j)) (sym (at_lead s.by i l) ∙ sym (s.is (at i)) ∙ z i l) ∙ zero_mul R (rows i j))

  pub rising_top : (x : ℕ → M) → Spans R n rows x → (t : ℕ) → (x t ≡ R.zero → ⊥) → ((j : ℕ) → t < j → x j ≡ R.zero) → (i : ℕ) × (i < n) × (at i ≡ t)
  rising_top x s t ne top = elim (find_place n at t) [
    | inl f ↦ f
    | inr none ↦ absurd (ne (s.is t ∙ total_zero R n _ (λ i l. by_bool (nat_lt t (at i))
        (λ b. ap (λ a. R.mul a (rows i t)) (sym (at_lead s.by i l) ∙ sym (s.is (at i)) ∙ top (at i) (ltb-true t (at i) b)) ∙ zero_mul R (rows i t))
        (λ b.
        let far : at i ≤ t = ltb-false t (at i) b in
        let other : at i ≢ t = none i l in
        ap (R.mul (s.by i)) (h.above i t l (omega arith)) ∙ mul_zero R (s.by i)))))
  ]

-- Rising numbers, each of which is among others that rise, lie no lower than those of the same place.
pub no_lower : (n m : ℕ) (p q : ℕ → ℕ) → ((i k : ℕ) → i < k → k < n → p i < p k) → ((i k : ℕ) → i < k → k < m → q i < q k)
    → ((i : ℕ) → i < n → (k : ℕ) × (k < m) × (q k ≡ p i)) → (i : ℕ) → i < n → (i < m) × (q i ≤ p i)
no_lower n m p q rp rq f zero l =
    let g = f 0 l in (
      omega (arith, g.1),
      elim (same_or_other g.0 0) [
        | inl e ↦ let v = ap q e in let u = g.2 in omega (arith, v, u)
        | inr d ↦ let r = rq 0 g.0 (omega arith) g.1 in let u = g.2 in omega (arith, r, u)
      ],
    )
no_lower n m p q rp rq f (suc i) l =
    let before = no_lower n m p q rp rq f i (omega arith) in
    let g = f (suc i) l in
    let up = rp i (suc i) (omega arith) l in
    let u = g.2 in
    let past = place_past m q rq i g.0 before.0 g.1 (omega (arith, before.1, up, u)) in (
      omega (arith, past, g.1),
      elim (same_or_other g.0 (suc i)) [
        | inl e ↦ let v = ap q e in omega (arith, v, u)
        | inr d ↦ let r = rq (suc i) g.0 (omega (arith, past)) g.1 in omega (arith, r, u)
      ],
    )
  where
    place_past : (m : ℕ) (q : ℕ → ℕ) → ((i k : ℕ) → i < k → k < m → q i < q k) → (i k : ℕ) → i < m → k < m → q i < q k → i < k
    place_past m q rq i k a b c = by_bool (nat_lt i k) (λ t. ltb-true i k t) (λ t.
        let le : k ≤ i = ltb-false i k t in
        elim (same_or_other k i) [
          | inl e ↦ let v = ap q e in absurd (omega (arith, v, c))
          | inr d ↦ let r = rq k i (omega arith) a in absurd (omega (arith, r, c))
        ])

module _ {M : Type 0} (R : RingOn M) (distinct : R.one ≢ R.zero) (n m : ℕ) (at by : ℕ → ℕ) (a b : ℕ → ℕ → M)
    (ha : Rising R n at a) (hb : Rising R m by b)
    (into : (i : ℕ) → i < n → Spans R m b (a i)) (back : (i : ℕ) → i < m → Spans R n a (b i)) where
  found : (i : ℕ) → i < n → (k : ℕ) × (k < m) × (by k ≡ at i)
  found i l = rising_top R m by b hb (a i) (into i l) (at i) (λ e. distinct (sym (ha.one i l) ∙ e)) (λ j t. ha.above i j l t)

  found_back : (i : ℕ) → i < m → (k : ℕ) × (k < n) × (at k ≡ by i)
  found_back i l = rising_top R n at a ha (b i) (back i l) (by i) (λ e. distinct (sym (hb.one i l) ∙ e)) (λ j t. hb.above i j l t)

  pub same_count_below : (i : ℕ) → i < n → i < m
  same_count_below i l = (no_lower n m at by ha.rising hb.rising found i l).0

  pub same_count_back : (i : ℕ) → i < m → i < n
  same_count_back i l = (no_lower m n by at hb.rising ha.rising found_back i l).0

  pub same_places : (i : ℕ) → i < n → at i ≡ by i
  same_places i l =
      let low = (no_lower n m at by ha.rising hb.rising found i l).1 in
      let high = (no_lower m n by at hb.rising ha.rising found_back i (same_count_below i l)).1 in
      omega (arith, low, high)

  pub same_members : (i j : ℕ) → i < n → a i j ≡ b i j
  same_members i j l =
      minus_same R (a i j) (b i j)
      (rising_zero R m by b hb (λ k. R.add (a i k) (R.neg (b i k)))
      (span_minus R m b (a i) (b i) (into i l) (span_row R m b i (same_count_below i l))) off j)
    where
      off : (k : ℕ) → k < m → R.add (a i (by k)) (R.neg (b i (by k))) ≡ R.zero
      off k c = minus_self R _ _ (elim (same_or_other i k) [
        | inl e ↦ ap (λ t. a i t) (ap by (sym e) ∙ sym (same_places i l)) ∙ ha.one i l ∙ sym (hb.one i (same_count_below i l)) ∙ ap (λ t. b i (by t)) e
        | inr d ↦
            let low = same_count_back k c in
            ap (λ t. a i t) (sym (same_places k low)) ∙ ha.apart i k l low d
            ∙ sym (hb.apart i k (same_count_below i l) c d)
      ])
