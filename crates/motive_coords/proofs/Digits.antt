-- Expansions in powers of an element `b` of a ring with sizes, not a constant: each element is in exactly one way
-- a sum of digits times powers of `b`, where the digits are the elements that are smaller than `b`.
use Rattle.std.proofs.Common.{◌≡◌, ℕ, zero, suc, ◌+◌, ◌-◌, ◌<◌, ◌≤◌, max, inl, inr, refl, sym, ◌∙◌, ap, ap₂, arith}
use Rattle.std.proofs.lemmas.Bool.{cases_lt}
use Rattle.ring_core.proofs.Carrier.{RingOn, add_zero, add_exchange, mul_zero, zero_mul, from_sum}
use Rattle.ring_core.proofs.Series.{total, total_first}
use Rattle.linear_algebra.proofs.Sums.{total_same, total_right}
use Rattle.euclid_theory.proofs.Sizes.{HasSizes, Divided, divide, minus_small, quotients_same}
use Rattle.relation_theory.proofs.Gauss.{at_each}
use Rattle.relation_theory.proofs.Relations.{before}

module _ {N : Type 0} (S : RingOn N) (b : N) where
  -- The sum of `x j b^j` over `j` below `n`, by Horner's rule.
  abbrev pub expanded : ℕ → (ℕ → N) → N
  expanded zero x = S.zero
  expanded (suc n) x = S.add (S.mul (expanded n (λ j. x (suc j))) b) (x 0)

  pub expanded_add : (n : ℕ) (x y : ℕ → N) → expanded n (λ j. S.add (x j) (y j)) ≡ S.add (expanded n x) (expanded n y)
  expanded_add zero x y = sym (S.zero_add S.zero)
  expanded_add (suc n) x y =
      ap (λ t. S.add (S.mul t b) (S.add (x 0) (y 0))) (expanded_add n (λ j. x (suc j)) (λ j. y (suc j)))
      ∙ ap (λ t. S.add t (S.add (x 0) (y 0))) (S.add_mul _ _ b) ∙ add_exchange S _ _ _ _

  -- a factor on the left
  pub expanded_left : (c : N) (n : ℕ) (x : ℕ → N) → expanded n (λ j. S.mul c (x j)) ≡ S.mul c (expanded n x)
  expanded_left c zero x = sym (mul_zero S c)
  expanded_left c (suc n) x =
      ap (λ t. S.add (S.mul t b) (S.mul c (x 0))) (expanded_left c n (λ j. x (suc j)))
      ∙ ap (λ t. S.add t (S.mul c (x 0))) (S.mul_assoc c _ b) ∙ sym (S.mul_add c _ _)

  -- zeros from n on
  pub expanded_zero : (n : ℕ) (x : ℕ → N) → ((j : ℕ) → x j ≡ S.zero) → expanded n x ≡ S.zero
  expanded_zero zero x e = refl
  expanded_zero (suc n) x e =
      ap₂ (λ s t. S.add (S.mul s b) t) (expanded_zero n (λ j. x (suc j)) (λ j. e (suc j))) (e 0)
      ∙ ap (λ t. S.add t S.zero) (zero_mul S b) ∙ S.zero_add S.zero

  pub expanded_more : (n m : ℕ) (x : ℕ → N) → n ≤ m → ((j : ℕ) → n ≤ j → x j ≡ S.zero) → expanded m x ≡ expanded n x
  expanded_more zero m x l e = expanded_zero m x (λ j. e j (omega arith))
  expanded_more (suc n) zero x l e = absurd (omega arith)
  expanded_more (suc n) (suc m) x l e =
      ap (λ t. S.add (S.mul t b) (x 0)) (expanded_more n m (λ j. x (suc j)) (omega arith) (λ j k. e (suc j) (omega arith)))

  -- the same sum with the powers written out, given b^0, b^1, ..
  pub expanded_powers : (power : ℕ → N) → power 0 ≡ S.one → ((j : ℕ) → power (suc j) ≡ S.mul (power j) b) → (n : ℕ) (x : ℕ → N) → total S n (λ j. S.mul (x j) (power j)) ≡ expanded n x
  expanded_powers power first next zero x = refl
  expanded_powers power first next (suc n) x =
      total_first S n (λ j. S.mul (x j) (power j))
      ∙ ap₂ S.add (ap (S.mul (x 0)) first ∙ S.mul_one (x 0))
      (total_same S n _ _ (λ j l. ap (S.mul (x (suc j))) (next j) ∙ sym (S.mul_assoc _ _ b))
      ∙ total_right S n b (λ j. S.mul (x (suc j)) (power j)) ∙ ap (λ t. S.mul t b) (expanded_powers power first next n (λ j. x (suc j))))
      ∙ S.add_comm _ _

module _ {N : Type 0} (S : RingOn N) (size : N → ℕ) (h : HasSizes S size) (b : N) (d : ℕ) (degree : size b ≡ suc d) (pos : 1 ≤ d) where
  -- the quotient by an element that isn't a constant is smaller
  pub quotient_smaller : (u q v : N) → u ≡ S.add (S.mul q b) v → size v ≤ d → size q ≤ size u - 1
  quotient_smaller u q v e low = elim (cases_lt 0 (size q)) [
    | inr none ↦ omega (arith, none)
    | inl some ↦
        let same : size (S.mul q b) ≡ size (S.add u (S.neg v)) = ap size (from_sum S (S.mul q b) v u (sym e)) in
        let m = minus_small S size h u v (max (size u) d) (omega arith) (omega (arith, low)) in
        omega (arith, m, same, h.product q b some (omega (arith, degree)), degree, pos)
  ]

  division : (u : N) → Divided S size u b
  division u = divide S size h (suc (size u)) u b (omega arith) (omega (arith, degree))

  rest_low : (u : N) → size (division u).rest ≤ d
  rest_low u = let l = (division u).lower in omega (arith, l, degree)

  abbrev digit_from : ℕ → N → ℕ → N
  digit_from zero u j = S.zero
  digit_from (suc n) u zero = (division u).rest
  digit_from (suc n) u (suc j) = digit_from n (division u).quotient j

  -- The digits of `u`.
  pub digits : N → ℕ → N
  digits u = digit_from (size u) u

  digit_in : (n : ℕ) (u : N) (j : ℕ) → size (digit_from n u j) ≤ d
  digit_in zero u j = let e = h.none in omega (arith, e)
  digit_in (suc n) u zero = rest_low u
  digit_in (suc n) u (suc j) = digit_in n (division u).quotient j

  pub digits_in : (u : N) (j : ℕ) → size (digits u j) ≤ d
  unfolding digits
  digits_in u j = digit_in (size u) u j

  digit_past : (n : ℕ) (u : N) (j : ℕ) → n ≤ j → digit_from n u j ≡ S.zero
  digit_past zero u j l = refl
  digit_past (suc n) u zero l = absurd (omega arith)
  digit_past (suc n) u (suc j) l = digit_past n (division u).quotient j (omega arith)

  pub digits_past : (u : N) (j : ℕ) → size u ≤ j → digits u j ≡ S.zero
  unfolding digits
  digits_past u j l = digit_past (size u) u j l

  digit_expanded : (n : ℕ) (u : N) → size u ≤ n → expanded S b n (digit_from n u) ≡ u
  digit_expanded zero u l = sym (h.empty u (omega arith))
  digit_expanded (suc n) u l =
      let q = division u in
      let s = quotient_smaller u q.quotient q.rest q.sum (rest_low u) in
      ap (λ t. S.add (S.mul t b) q.rest) (digit_expanded n q.quotient (omega (arith, l, s))) ∙ sym q.sum

  -- u is the sum of its digits times powers of b
  pub digits_expanded : (u : N) (n : ℕ) → size u ≤ n → expanded S b n (digits u) ≡ u
  unfolding digits
  digits_expanded u n l =
      expanded_more S b (size u) n (digit_from (size u) u) l (digits_past u) ∙ digit_expanded (size u) u (omega arith)

  -- s b + x = t b + y for digits x and y only where both parts are equal
  same_parts : (s t x y : N) → size x ≤ d → size y ≤ d → S.add (S.mul s b) x ≡ S.add (S.mul t b) y → (s ≡ t) × (x ≡ y)
  same_parts s t x y dx dy same = quotients_same S size h b s t x y same (omega (arith, dx, degree)) (omega (arith, dy, degree))

  -- two expansions of one element are equal
  pub expanded_only : (n : ℕ) (x y : ℕ → N) → ((j : ℕ) → size (x j) ≤ d) → ((j : ℕ) → size (y j) ≤ d) → expanded S b n x ≡ expanded S b n y → (j : ℕ) → j < n → x j ≡ y j
  expanded_only zero x y dx dy e j l = absurd (omega arith)
  expanded_only (suc n) x y dx dy e zero l =
      (same_parts _ _ (x 0) (y 0) (dx 0) (dy 0) e).1
  expanded_only (suc n) x y dx dy e (suc j) l =
      expanded_only n (λ i. x (suc i)) (λ i. y (suc i)) (λ i. dx (suc i)) (λ i. dy (suc i))
      (same_parts _ _ (x 0) (y 0) (dx 0) (dy 0) e).0 j (omega arith)

  -- the digits of u are those of any expansion of it
  pub digits_only : (u : N) (n : ℕ) (x : ℕ → N) → ((j : ℕ) → size (x j) ≤ d) → ((j : ℕ) → n ≤ j → x j ≡ S.zero) → expanded S b n x ≡ u → (j : ℕ) → digits u j ≡ x j
  digits_only u n x dx past e j =
      let m = size u + n + suc j in
      expanded_only m (digits u) x (digits_in u) dx
      (digits_expanded u m (omega arith) ∙ sym (expanded_more S b n m x (omega arith) past ∙ e)) j (omega arith)

  pub digits_add : (u v : N) (j : ℕ) → digits (S.add u v) j ≡ S.add (digits u j) (digits v j)
  digits_add u v =
      let n = size u + size v in
      digits_only (S.add u v) n (λ j. S.add (digits u j) (digits v j)) (λ j. h.sum _ _ d (digits_in u j) (digits_in v j))
      (λ j l. ap₂ S.add (digits_past u j (omega arith)) (digits_past v j (omega arith)) ∙ S.zero_add S.zero)
      (expanded_add S b n (digits u) (digits v) ∙ ap₂ S.add (digits_expanded u n (omega arith)) (digits_expanded v n (omega arith)))

  -- multiplication by b on the right moves the digits up
  pub digits_shift : (u : N) (j : ℕ) → digits (S.mul u b) j ≡ before S.zero (digits u) j
  digits_shift u =
      let n = size u in
      digits_only (S.mul u b) (suc n) (before S.zero (digits u)) (at_each (λ j. size (before S.zero (digits u) j) ≤ d) (let e = h.none in omega (arith, e)) (digits_in u))
      (at_each (λ j. suc n ≤ j → before S.zero (digits u) j ≡ S.zero) (λ l. refl) (λ j l. digits_past u j (omega arith)))
      (ap (λ t. S.add (S.mul t b) S.zero) (digits_expanded u n (omega arith)) ∙ add_zero S _)

  -- multiplication on the left by an element that keeps digits
  pub digits_left : (c u : N) → ((x : N) → size x ≤ d → size (S.mul c x) ≤ d) → (j : ℕ) → digits (S.mul c u) j ≡ S.mul c (digits u j)
  digits_left c u keeps =
      let n = size u in
      digits_only (S.mul c u) n (λ j. S.mul c (digits u j)) (λ j. keeps _ (digits_in u j))
      (λ j l. ap (S.mul c) (digits_past u j l) ∙ mul_zero S c)
      (expanded_left S b c n (digits u) ∙ ap (S.mul c) (digits_expanded u n (omega arith)))

  -- only zero has no digits
  pub digits_zero : (u : N) → ((j : ℕ) → digits u j ≡ S.zero) → u ≡ S.zero
  digits_zero u e = sym (digits_expanded u (size u) (omega arith)) ∙ expanded_zero S b (size u) (digits u) e
