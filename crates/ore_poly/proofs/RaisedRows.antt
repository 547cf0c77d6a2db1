-- Rows that are raised one step after the other, kept in one list, and the product that is made of them.
use Rattle.std.proofs.Common.{◌≡◌, ℕ, zero, suc, ◌+◌, ◌-◌, ◌*◌, ◌%◌, ◌<◌, ◌≤◌, min, true, List, [], ◌∷◌, ◌++◌, length, drop, sym, ◌∙◌, ap, ⊎_elim, arith, get_or-take, get_or-drop, slice_range}
use Rattle.std.proofs.Math.Nat.{mod-le, mod-lt, mul-le-mul_right}
use Rattle.std.proofs.lemmas.Bool.{cases_lt}
use Rattle.std.proofs.lemmas.List.{get_or_append_left, get_or_push, length_push, length-take}
use Rattle.ring_core.specs.Ring.{RingOps, IsRing}
use Rattle.ring_core.specs.Coeffs.{coeff, are_elems, first_values}
use Rattle.ring_core.proofs.Coefficients.{coeff_past, coeff-first_values, elem_read}
use Rattle.ring_core.proofs.RowSteps.{HasRows, rows_none, rows_more}
use Rattle.ring_core.proofs.Twist.{IsTwist, twist_of_zero}
use Rattle.ore_poly.specs.steps.Raised.{AreRaised}

-- the room for a row, among as many rows as differ and are wanted
pub row_room : (i n m len : ℕ) → 1 ≤ n → i < m → i % n * len + len ≤ min n m * len
row_room i n m len some low =
    let rest : i % n < n = mod-lt i some in
    let few : i % n ≤ i = mod-le i n in
    let ends : (i % n + 1) * len ≤ min n m * len = mul-le-mul_right len (omega arith) in
    omega (arith, ends)

module _ {E : Type 0} (r : RingOps E) (h : IsRing r) (frob : E → ℕ → E) (t : IsTwist r frob) (b : List E) (e : are_elems r b ≡ true) where
  -- no row yet
  pub raised_none : AreRaised r frob b []
  raised_none j k l within = absurd (omega arith)

  -- one more member
  pub raised_more : (rows more : List E) (x : E) → AreRaised r frob b rows → more ≡ rows ++ x ∷ [] → ((j k : ℕ) → k < length b → j * length b + k ≡ length rows → x ≡ frob (coeff r b k) j) → AreRaised r frob b more
  raised_more rows more x raised pushed next j k l within =
      let longer : length more ≡ length rows + 1 = ap length pushed ∙ length_push rows x in
      let place : ℕ = j * length b + k in
      ap (λ u. coeff r u place) pushed
      ∙ ⊎_elim
      (λ (low : place < length rows). get_or_append_left rows (x ∷ []) r.zero place low ∙ raised j k l low)
      (λ (high : length rows ≤ place).
      let here : place ≡ length rows = omega arith in
      get_or_push rows x r.zero place (sym here) ∙ next j k l here)
      (cases_lt place (length rows))

  -- a member of the first row
  pub first_next : (rows : List E) → length rows < length b → (j k : ℕ) → k < length b → j * length b + k ≡ length rows → coeff r b (length rows) ≡ frob (coeff r b k) j
  first_next rows low zero k l here =
      let place : length rows ≡ k = omega arith in
      ap (coeff r b) place ∙ sym (t.twist_zero _ (elem_read r b h.closed.zero_in e k))
  first_next rows low (suc j) k l here = absurd (omega arith)

  -- a member of a later row
  pub later_next : (rows : List E) → AreRaised r frob b rows → length b ≤ length rows → (j k : ℕ) → k < length b → j * length b + k ≡ length rows → frob (coeff r rows (length rows - length b)) 1 ≡ frob (coeff r b k) j
  later_next rows raised high zero k l here = absurd (omega arith)
  later_next rows raised high (suc j) k l here =
      let before : length rows - length b ≡ j * length b + k = omega arith in
      let within : j * length b + k < length rows = omega arith in
      let next : j + 1 ≡ suc j = omega arith in
      ap (λ i. frob (coeff r rows i) 1) before ∙ ap (λ x. frob x 1) (raised j k l within)
      ∙ sym (t.twist_plus (coeff r b k) j 1 (elem_read r b h.closed.zero_in e k))
      ∙ ap (frob (coeff r b k)) next

  raised_past : (i k : ℕ) → length b ≤ k → frob (coeff r b k) i ≡ r.zero
  raised_past i k past =
      ap (λ x. frob x i) (coeff_past r b k past) ∙ twist_of_zero r h frob t i

  -- `b` raised by `i` steps
  abbrev pub raised_by : ℕ → List E
  raised_by i = first_values (length b) (λ k. frob (coeff r b k) i)

  pub raised_by_at : (i k : ℕ) → coeff r (raised_by i) k ≡ frob (coeff r b k) i
  raised_by_at i k =
      coeff-first_values r (length b) (λ k. frob (coeff r b k) i) (raised_past i) k

  -- a row that stands among the others
  pub row_found : (rows : List E) (j k : ℕ) → AreRaised r frob b rows → j * length b + length b ≤ length rows → coeff r (slice_range rows (j * length b) (j * length b + length b)) k ≡ frob (coeff r b k) j
  row_found rows j k raised room =
      let start : ℕ = j * length b in
      let len : start + length b - start ≡ length b = omega arith in
      ⊎_elim
      (λ (low : k < length b).
      get_or-take (start + length b - start) (drop start rows) k r.zero (omega arith) ∙ get_or-drop start rows k r.zero ∙ raised j k low (omega arith))
      (λ (high : length b ≤ k).
      let whole = length-take (start + length b - start) (drop start rows) in
      coeff_past r (slice_range rows start (start + length b)) k (omega (arith, whole)) ∙ sym (raised_past j k high))
      (cases_lt k (length b))

  -- the product, before its first row and with one row more
  pub sums_none : (a out : List E) → ((k : ℕ) → coeff r out k ≡ r.zero) → HasRows r frob a b out (raised_by 0) 0
  sums_none a out zeros = record {
    raised = raised_by_at 0;
    sums = (rows_none r h frob t a b out e zeros).sums;
  }

  pub sums_more : (a out out2 row : List E) (i : ℕ) (c : E) → HasRows r frob a b out (raised_by i) i → c ≡ coeff r a i → length out2 ≡ length out → ((k : ℕ) → k < i → coeff r out2 k ≡ coeff r out k)
      → ((k : ℕ) → coeff r out2 (i + k) ≡ r.add (coeff r out (i + k)) (r.mul c (coeff r row k))) → ((k : ℕ) → coeff r row k ≡ frob (coeff r b k) i) → HasRows r frob a b out2 (raised_by (i + 1)) (i + 1)
  sums_more a out out2 row i c rows is len below added raised =
      rows_more r h frob t a b out row out2 (raised_by (i + 1)) i c e
      (record { raised = raised; sums = rows.sums }) is len below added
      (λ k.
      raised_by_at (i + 1) k
      ∙ t.twist_plus (coeff r b k) i 1 (elem_read r b h.closed.zero_in e k)
      ∙ ap (λ x. frob x 1) (sym (raised k)))
