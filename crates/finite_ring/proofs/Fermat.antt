-- In a finite commutative ring in which no two nonzero elements multiply to zero, each nonzero element
-- to the number of nonzero elements is one: multiplying all of them by it only permutes them.
use Rattle.std.proofs.Common.{◌≡◌, ◌≢◌, ℕ, zero, suc, ◌-◌, ◌<◌, ◌≤◌, ◌⊎◌, inl, inr, List, [], ◌∷◌, map, length, sym, ◌∙◌, ap, subst, refl, arith}
use Rattle.std.proofs.lemmas.Bool.{cases_eq}
use Rattle.ring_core.specs.Coeffs.{first_values}
use Rattle.ring_core.proofs.Carrier.{RingOn}
use Rattle.ring_core.proofs.FirstValues.{length-first_values}
use Rattle.finite_ring.proofs.Powers.{power, mul_swap, mul_exchange, zero-power}
use Rattle.finite_ring.proofs.Counted.{IsCounted, NoPair, mul_cancel, same_index, cases_same}

abbrev pub Member : {M : Type 0} → M → List M → Type 0
Member x [] = ⊥
Member x (y ∷ ys) = (x ≡ y) ⊎ Member x ys

-- No member stands twice.
abbrev pub IsApart : {M : Type 0} → List M → Type 0
IsApart [] = Unit {0}
IsApart (x ∷ xs) = (Member x xs → ⊥) × IsApart xs

-- the list without that member
abbrev without : {M : Type 0} (x : M) (ys : List M) → Member x ys → List M
without x [] m = elim m [ ]
without x (y ∷ ys) (inl e) = ys
without x (y ∷ ys) (inr m) = y ∷ without x ys m

member-without : {M : Type 0} (x z : M) (ys : List M) (m : Member x ys) → Member z ys → z ≢ x → Member z (without x ys m)
member-without x z [] m k ne = elim m [ ]
member-without x z (y ∷ ys) (inl e) (inl f) ne = absurd (ne (f ∙ sym e))
member-without x z (y ∷ ys) (inl e) (inr k) ne = k
member-without x z (y ∷ ys) (inr m) (inl f) ne = inl f
member-without x z (y ∷ ys) (inr m) (inr k) ne = inr (member-without x z ys m k ne)

length-without : {M : Type 0} (x : M) (ys : List M) (m : Member x ys) → length ys ≡ suc (length (without x ys m))
length-without x [] m = elim m [ ]
length-without x (y ∷ ys) (inl e) = refl
length-without x (y ∷ ys) (inr m) = ap suc (length-without x ys m)

-- members of a list of values
member-values : {M : Type 0} (n : ℕ) (f : ℕ → M) (i : ℕ) → i < n → Member (f i) (first_values n f)
member-values zero f i l = absurd (omega arith)
member-values (suc n) f zero l = inl refl
member-values (suc n) f (suc i) l = inr (member-values n (λ k. f (suc k)) i (omega arith))

values-member : {M : Type 0} (n : ℕ) (f : ℕ → M) (z : M) → Member z (first_values n f) → (i : ℕ) × (i < n) × (z ≡ f i)
values-member zero f z m = elim m [ ]
values-member (suc n) f z (inl e) = (0, omega arith, e)
values-member (suc n) f z (inr m) =
    let k = values-member n (λ i. f (suc i)) z m in
    let l : k.0 < n = k.1 in
    (suc k.0, omega arith, k.2)

apart-values : {M : Type 0} (n : ℕ) (f : ℕ → M) → ((i j : ℕ) → i < n → j < n → f i ≡ f j → i ≡ j) → IsApart (first_values n f)
apart-values zero f inj = tt
apart-values (suc n) f inj = (
  (λ m.
      let k = values-member n (λ i. f (suc i)) (f 0) m in
      let l : k.0 < n = k.1 in
      let e : 0 ≡ suc k.0 = inj 0 (suc k.0) (omega arith) (omega arith) k.2 in
      absurd (omega arith)),
  apart-values n (λ i. f (suc i)) (λ i j l m e. let d : suc i ≡ suc j = inj (suc i) (suc j) (omega arith) (omega arith) e in omega arith),
)

-- members of the multiples of a list
member-map : {M : Type 0} (f : M → M) (xs : List M) (z : M) → Member z (map f xs) → (w : M) × (Member w xs) × (z ≡ f w)
member-map f [] z m = elim m [ ]
member-map f (x ∷ xs) z (inl e) = (x, inl refl, e)
member-map f (x ∷ xs) z (inr m) = let k = member-map f xs z m in (k.0, inr k.1, k.2)

apart-map : {M : Type 0} (f : M → M) → ((x y : M) → f x ≡ f y → x ≡ y) → (xs : List M) → IsApart xs → IsApart (map f xs)
apart-map f inj [] a = tt
apart-map f inj (x ∷ xs) a =
    ((λ m. let k = member-map f xs (f x) m in a.0 (subst (λ w. Member w xs) (sym (inj x k.0 k.2)) k.1)), apart-map f inj xs a.1)

length_of_map : {M : Type 0} (f : M → M) (xs : List M) → length (map f xs) ≡ length xs
length_of_map f [] = refl
length_of_map f (x ∷ xs) = ap suc (length_of_map f xs)

abbrev product_of : {M : Type 0} → RingOn M → List M → M
product_of R [] = R.one
product_of R (x ∷ xs) = R.mul x (product_of R xs)

module _ {M : Type 0} (R : RingOn M) (comm : (a b : M) → R.mul a b ≡ R.mul b a) where
  product-without : (x : M) (ys : List M) (m : Member x ys) → product_of R ys ≡ R.mul x (product_of R (without x ys m))
  product-without x [] m = elim m [ ]
  product-without x (y ∷ ys) (inl e) = ap (λ z. R.mul z (product_of R ys)) (sym e)
  product-without x (y ∷ ys) (inr m) =
      ap (R.mul y) (product-without x ys m) ∙ mul_swap R comm y x (product_of R (without x ys m))

  -- All apart, each in the other list, and equal lengths: equal products.
  same_product : (xs ys : List M) → IsApart xs → ((z : M) → Member z xs → Member z ys) → length xs ≡ length ys
      → product_of R xs ≡ product_of R ys
  same_product [] [] apart within e = refl
  same_product [] (y ∷ ys) apart within e = absurd (cc)
  same_product (x ∷ xs) ys apart within e =
      let m = within x (inl refl) in
      let shorter : length ys ≡ suc (length (without x ys m)) = length-without x ys m in
      ap (R.mul x)
      (same_product xs (without x ys m) apart.1
      (λ z k. member-without x z ys m (within z (inr k)) (λ d. apart.0 (subst (λ w. Member w xs) d k)))
      (let lengths : suc (length xs) ≡ length ys = e in omega arith))
      ∙ sym (product-without x ys m)

  product-map : (c : M) (xs : List M) → product_of R (map (R.mul c) xs) ≡ R.mul (power R c (length xs)) (product_of R xs)
  product-map c [] = sym (R.one_mul R.one)
  product-map c (x ∷ xs) =
      ap (R.mul (R.mul c x)) (product-map c xs) ∙ mul_exchange R comm c x (power R c (length xs)) (product_of R xs)
      ∙ ap (λ y. R.mul y (R.mul x (product_of R xs))) (comm c (power R c (length xs)))

  product_nonzero : NoPair R → R.one ≢ R.zero → (xs : List M) → ((z : M) → Member z xs → z ≢ R.zero) → product_of R xs ≢ R.zero
  product_nonzero no_pair ne [] each = ne
  product_nonzero no_pair ne (x ∷ xs) each =
      no_pair x (product_of R xs) (each x (inl refl)) (product_nonzero no_pair ne xs (λ z k. each z (inr k)))

module _ {M : Type 0} (R : RingOn M) (comm : (a b : M) → R.mul a b ≡ R.mul b a) (count : ℕ) (fin : IsCounted R count)
    (ne : R.one ≢ R.zero) (no_pair : NoPair R) where
  pub index_nonzero : (x : M) → x ≢ R.zero → 0 < fin.index x
  index_nonzero x nx =
      elim (cases_eq (fin.index x) 0) [
        | inl e ↦ absurd (nx (same_index R count fin x R.zero (e ∙ sym fin.index_zero)))
        | inr k ↦ omega arith
      ]

  -- zero and one are two elements
  pub count_large : 2 ≤ count
  count_large =
      let positive : 0 < fin.index R.one = index_nonzero R.one ne in
      let below : fin.index R.one < count = fin.below R.one in
      omega arith

  -- all nonzero elements
  abbrev units : List M
  units = first_values (count - 1) (λ i. fin.nth (suc i))

  units_apart : IsApart units
  units_apart =
      apart-values (count - 1) (λ i. fin.nth (suc i))
      (λ i j l m e.
      let d : suc i ≡ suc j = sym (fin.index_nth (suc i) (omega arith)) ∙ ap fin.index e ∙ fin.index_nth (suc j) (omega arith) in
      omega arith)

  in_units : (z : M) → z ≢ R.zero → Member z units
  in_units z nz =
      let positive : 0 < fin.index z = index_nonzero z nz in
      let below : fin.index z < count = fin.below z in
      let k = fin.index z - 1 in
      let is : suc (fin.index z - 1) ≡ fin.index z = omega arith in
      subst (λ w. Member w units) (ap fin.nth is ∙ fin.nth_index z)
      (member-values (count - 1) (λ i. fin.nth (suc i)) k (omega arith))

  units_nonzero : (z : M) → Member z units → z ≢ R.zero
  units_nonzero z m e =
      let k = values-member (count - 1) (λ i. fin.nth (suc i)) z m in
      let l : k.0 < count - 1 = k.1 in
      let at : suc k.0 ≡ 0 = sym (fin.index_nth (suc k.0) (omega arith)) ∙ ap fin.index (sym k.2 ∙ e) ∙ fin.index_zero in
      absurd (omega arith)

  -- c to the number of nonzero elements is one
  pub power_count : (c : M) → c ≢ R.zero → power R c (count - 1) ≡ R.one
  power_count c nc =
      let product = product_of R units in
      mul_cancel R count fin no_pair product (power R c (count - 1)) R.one (product_nonzero R comm no_pair ne units units_nonzero)
      (comm product (power R c (count - 1))
      ∙ ap (λ n. R.mul (power R c n) product) (sym (length-first_values (count - 1) (λ i. fin.nth (suc i))))
      ∙ sym (product-map R comm c units)
      ∙ same_product R comm (map (R.mul c) units) units
      (apart-map (R.mul c) (λ x y. mul_cancel R count fin no_pair c x y nc) units units_apart)
      (λ z m.
      let k = member-map (R.mul c) units z m in
      in_units z (λ e. no_pair c k.0 nc (units_nonzero k.0 k.1) (sym k.2 ∙ e)))
      (length_of_map (R.mul c) units)
      ∙ sym (R.mul_one product))

  -- c to the number of elements is c
  pub count_fixes : (c : M) → power R c count ≡ c
  count_fixes c =
      let large : 2 ≤ count = count_large in
      let is : count ≡ suc (count - 1) = omega arith in
      ap (power R c) is
      ∙ (elim (cases_same R count fin c R.zero) [
        | inl e ↦ ap (λ x. power R x (suc (count - 1))) e ∙ zero-power R (count - 1) ∙ sym e
        | inr nc ↦ ap (λ x. R.mul x c) (power_count c nc) ∙ R.one_mul c
      ])
