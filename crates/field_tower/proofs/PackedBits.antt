-- Fields of two elements, whose sums and products are those of bits, and residues as packed numbers.
use Rattle.std.proofs.Common.{◌≡◌, ℕ, zero, suc, ◌+◌, ◌-◌, ◌*◌, ◌%◌, ◌^◌, ◌/◌, ◌<◌, ◌≤◌, true, List, slice_index, slice_index_or, bit_and, bit_xor, sym, refl, ap, ap₂, subst, ◌∙◌, arith, mod-lt, mod-eq_of_lt}
use native.Mathlib.Nat.{pow-le-pow_right}
use Rattle.std.specs.Int.{bit_at}
use Rattle.std.proofs.lemmas.Nat.{and_comm, and_mask, div-add-mod'}
use Rattle.std.proofs.lemmas.Nat.Bits.{bit_at-suc, bit_at_lowest, bit_at-lt, bit_at-zero, bit_at_xor, bit_at_cat_low}
use Rattle.ring_core.specs.Ring.{RingOps, IsElem}
use Rattle.ring_core.specs.Coeffs.{coeff, are_elems}
use Rattle.ring_core.proofs.Coefficients.{elem_read}
use Rattle.residue_field.specs.declared.TopElem.{TopElem}
use Rattle.residue_field.specs.Residue.{shifted, times_x}
use Rattle.residue_field.specs.Prime.{prime_ops}
use Rattle.residue_field.specs.Base.{Base, base_ops, ops_of}
use Rattle.residue_field.proofs.BaseLaws.{IsBaseShape, shape_of, base_ring}
use Rattle.residue_field.proofs.BaseForms.{prime_add, prime_mul, prime_neg}
use Rattle.residue_field.proofs.Rows.{rows}
use Rattle.field_tower.specs.steps.Bits.{IsBinary}
use Rattle.field_tower.specs.steps.Images.{image_at, combined_images}
use Rattle.field_tower.proofs.BaseValues.{base-zero, below_size}
use Rattle.field_tower.proofs.Rows.{next_row}

-- numbers bit by bit

pub bit_doubled : (a i : ℕ) → bit_at (a * 2) i ≡ shifted (prime_ops 2) (bit_at a) i
bit_doubled a zero = omega (arith, bit_at_lowest (a * 2))
bit_doubled a (suc i) = let half : a * 2 / 2 ≡ a = omega arith in bit_at-suc (a * 2) i ∙ ap (λ x. bit_at x i) half

pub bit_scaled : (c x i : ℕ) → c < 2 → bit_at (c * x) i ≡ c * bit_at x i
bit_scaled zero x i l =
    let none : 0 * x ≡ 0 = omega arith in
    ap (λ y. bit_at y i) none ∙ bit_at-zero i ∙ omega arith
bit_scaled (suc zero) x i l =
    let same : 1 * x ≡ x = omega arith in
    ap (λ y. bit_at y i) same ∙ omega arith
bit_scaled (suc (suc c)) x i l = absurd (omega arith)

bit_low : (x k i : ℕ) → i < k → bit_at (x % 2 ^ k) i ≡ bit_at x i
bit_low x k i l =
    sym (bit_at_cat_low (x / 2 ^ k) k (x % 2 ^ k) i l) ∙ ap (λ y. bit_at y i) (div-add-mod' x (2 ^ k))

-- bits with exclusive or and with and
xor_bits : (x y : ℕ) → x < 2 → y < 2 → bit_xor x y ≡ (x + y) % 2
xor_bits zero zero l m = refl
xor_bits zero (suc zero) l m = refl
xor_bits (suc zero) zero l m = refl
xor_bits (suc zero) (suc zero) l m = refl
xor_bits (suc (suc x)) y l m = absurd (omega arith)
xor_bits zero (suc (suc y)) l m = absurd (omega arith)
xor_bits (suc zero) (suc (suc y)) l m = absurd (omega arith)

and_bits : (x y : ℕ) → x < 2 → y < 2 → bit_and x y ≡ (x * y) % 2
and_bits zero zero l m = refl
and_bits zero (suc zero) l m = refl
and_bits (suc zero) zero l m = refl
and_bits (suc zero) (suc zero) l m = refl
and_bits (suc (suc x)) y l m = absurd (omega arith)
and_bits zero (suc (suc y)) l m = absurd (omega arith)
and_bits (suc zero) (suc (suc y)) l m = absurd (omega arith)

and_low : (x y : ℕ) → x < 2 → y < 2 → bit_and x y < 2
and_low x y l m = omega (arith, and_bits x y l m)

pub masked_low : (s x y : ℕ) → s < 2 → x < 2 → y < 2 → bit_xor s (bit_and x y) < 2
masked_low s x y k l m = omega (arith, xor_bits s (bit_and x y) k (and_low x y l m))

pub masked_none : (x : ℕ) → x < 2 → bit_xor 0 (bit_and x 0) ≡ 0
masked_none x l = ap (bit_xor 0) (and_bits x 0 l (omega arith) ∙ omega arith)

-- a step of the product, bit by bit, where the words of Rust have thirty-two places
pub step_at : (n low c b r t u top : ℕ) → n ≤ 16 → c < 2 → top ≡ bit_at r (n - 1) → t ≡ top * low → u ≡ c * b → (i : ℕ) → i < n
    → let k = prime_ops 2 in
    bit_at (bit_xor (bit_xor (r * 2 % 2 ^ 32) t) u) i ≡ k.add (k.mul c (bit_at b i)) (times_x k (n - 1) (bit_at low) (bit_at r) i)
step_at n low c b r t u top room bit top_is multiple scaled i l =
    let raised = ap (λ x. x * low) top_is in
    bit_at_xor (bit_xor (r * 2 % 2 ^ 32) t) u i
    ∙ ap₂ (λ x y. (x + y) % 2)
    (bit_at_xor (r * 2 % 2 ^ 32) t i
    ∙ ap₂ (λ x y. (x + y) % 2) (bit_low (r * 2) 32 i (omega arith) ∙ bit_doubled r i)
    (ap (λ x. bit_at x i) (multiple ∙ raised) ∙ bit_scaled (bit_at r (n - 1)) low i (bit_at-lt r (n - 1))))
    (ap (λ x. bit_at x i) scaled ∙ bit_scaled c b i bit)
    ∙ mixed (shifted (prime_ops 2) (bit_at r) i) (bit_at r (n - 1) * bit_at low i) (c * bit_at b i)
  where
    mixed : (s x y : ℕ) → ((s + x) % 2 + y) % 2 ≡ (y % 2 + (s + (2 - x % 2) % 2) % 2) % 2
    mixed s x y = omega arith

module _ (k : Base) (binary : IsBinary k) where
  abbrev r : RingOps ℕ
  r = ops_of k

  least : k.s - 1 ≡ 0
  least = let one : k.s ≡ 1 = binary.degree in omega arith

  shape : IsBaseShape k.p 0 k.modulus
  shape = subst (λ m. IsBaseShape k.p m k.modulus) least (shape_of k)

  pub zero_is : r.zero ≡ 0
  zero_is = base-zero k.p (k.s - 1) k.modulus

  -- members as code reads them
  pub read : (u : List ℕ) (i : ℕ) → slice_index u i ≡ coeff r u i
  read u i = ap (slice_index_or u i) (sym zero_is)

  bit_of : (x : ℕ) → IsElem r x → x < 2
  bit_of x e = subst (λ n. x < n) (ap₂ (λ p s. p ^ s) binary.prime binary.degree) (below_size k x e)

  pub coeff_bit : (u : List ℕ) → are_elems r u ≡ true → (i : ℕ) → coeff r u i < 2
  coeff_bit u e i = bit_of _ (elem_read r u (base_ring k).closed.zero_in e i)

  pub member_bit : (u : List ℕ) → are_elems r u ≡ true → (i : ℕ) → slice_index u i < 2
  member_bit u e i = subst (λ x. x < 2) (sym (read u i)) (coeff_bit u e i)

  prime_bit : (x : ℕ) → x < 2 → x < k.p
  prime_bit x l = subst (λ p. x < p) (sym binary.prime) l

  pub sum_bit : (x y : ℕ) → x < 2 → y < 2 → (prime_ops 2).add x y ≡ r.add x y
  sum_bit x y l m =
      ap (λ p. (x + y) % p) (sym binary.prime) ∙ sym (prime_add k.p k.modulus shape x y (prime_bit x l) (prime_bit y m))
      ∙ ap (λ n. (base_ops k.p n k.modulus).add x y) (sym least)

  pub product_bit : (x y : ℕ) → x < 2 → y < 2 → (prime_ops 2).mul x y ≡ r.mul x y
  product_bit x y l m =
      ap (λ p. (x * y) % p) (sym binary.prime) ∙ sym (prime_mul k.p k.modulus shape x y (prime_bit x l) (prime_bit y m))
      ∙ ap (λ n. (base_ops k.p n k.modulus).mul x y) (sym least)

  pub negative_bit : (x : ℕ) → x < 2 → (prime_ops 2).neg x ≡ r.neg x
  negative_bit x l =
      ap (λ p. (p - x) % p) (sym binary.prime) ∙ sym (prime_neg k.p k.modulus shape x (prime_bit x l))
      ∙ ap (λ n. (base_ops k.p n k.modulus).neg x) (sym least)

  -- one step of the product, in the numbers modulo two
  pub step_bits : (c x s t y : ℕ) → c < 2 → x < 2 → s < 2 → t < 2 → y < 2
      → let b = prime_ops 2 in
      b.add (b.mul c x) (b.add s (b.neg (b.mul t y))) ≡ r.add (r.mul c x) (r.add s (r.neg (r.mul t y)))
  step_bits c x s t y lc lx ls lt ly =
      let two : 0 < 2 = omega arith in
      let multiple : (t * y) % 2 < 2 = mod-lt (t * y) two in
      let negative : (2 - (t * y) % 2) % 2 < 2 = mod-lt (2 - (t * y) % 2) two in
      let product : (c * x) % 2 < 2 = mod-lt (c * x) two in
      let rest : (s + (2 - (t * y) % 2) % 2) % 2 < 2 = mod-lt (s + (2 - (t * y) % 2) % 2) two in
      sum_bit ((c * x) % 2) ((s + (2 - (t * y) % 2) % 2) % 2) product rest
      ∙ ap₂ r.add (product_bit c x lc lx)
      (sum_bit s ((2 - (t * y) % 2) % 2) ls negative
      ∙ ap (r.add s) (negative_bit ((t * y) % 2) multiple ∙ ap r.neg (product_bit t y lt ly)))

  shifted_bits : (v : ℕ → ℕ) (i : ℕ) → shifted (prime_ops 2) v i ≡ shifted r v i
  shifted_bits v zero = sym zero_is
  shifted_bits v (suc i) = refl

  shifted_low : (v : ℕ → ℕ) → ((j : ℕ) → v j < 2) → (i : ℕ) → shifted (prime_ops 2) v i < 2
  shifted_low v low zero = omega arith
  shifted_low v low (suc i) = low i

  -- the next row of the product, as a step makes it of packed numbers
  pub next_bits : (d : ℕ) (f a b : ℕ → ℕ) (low right before : ℕ) (n i j c : ℕ) → n ≡ suc d → 0 < i → i ≤ n → j < n
      → c ≡ a (i - 1) → c < 2 → bit_at low j ≡ f j → bit_at right j ≡ b j
      → ((m : ℕ) → m < n → bit_at before m ≡ rows r d f (n - i) (λ m. a (i + m)) b m)
      → let k = prime_ops 2 in
      k.add (k.mul c (bit_at right j)) (times_x k (n - 1) (bit_at low) (bit_at before) j)
      ≡ rows r d f (n - (i - 1)) (λ m. a (i - 1 + m)) b j
  next_bits d f a b low right before n i j c size pos within place is bit same_low same_right rows_before =
      let top : n - 1 ≡ d = omega arith in
      step_bits c (bit_at right j) (shifted (prime_ops 2) (bit_at before) j) (bit_at before (n - 1)) (bit_at low j) bit (bit_at-lt right j)
      (shifted_low (bit_at before) (bit_at-lt before) j) (bit_at-lt before (n - 1)) (bit_at-lt low j)
      ∙ ap₂ r.add (ap (r.mul c) same_right)
      (ap₂ r.add (shifted_bits (bit_at before) j)
      (ap r.neg (ap₂ r.mul (ap (bit_at before) top) same_low)))
      ∙ next_row r d f a b (bit_at before) n i j size pos within place is rows_before

  masked_bit : (s x y : ℕ) → s < 2 → x < 2 → y < 2 → bit_xor s (bit_and x y) ≡ r.add s (r.mul x y)
  masked_bit s x y l m n =
      xor_bits s (bit_and x y) l (and_low x y m n) ∙ sum_bit s (bit_and x y) l (and_low x y m n)
      ∙ ap (r.add s) (and_bits x y m n ∙ product_bit x y m n)

  pub combined_none : (images : List TopElem) (start : ℕ) (c : TopElem) (i : ℕ) → 0 ≡ combined_images r 0 images start c i
  unfolding combined_images
  combined_none images start c i = sym zero_is

  -- one more image, as a step adds it
  pub masked_next : (images : List TopElem) (start : ℕ) (c : TopElem) (j i s : ℕ) → s ≡ combined_images r j images start c i → s < 2
      → slice_index c.0 j < 2 → slice_index (image_at images (start + j)).0 i < 2
      → bit_xor s (bit_and (slice_index c.0 j) (slice_index (image_at images (start + j)).0 i)) ≡ combined_images r (j + 1) images start c i
  unfolding combined_images
  masked_next images start c j i s is low left right =
      let next : suc j ≡ j + 1 = omega arith in
      masked_bit s (slice_index c.0 j) (slice_index (image_at images (start + j)).0 i) low left right
      ∙ ap₂ r.add is (ap₂ r.mul (read c.0 j) (read (image_at images (start + j)).0 i))
      ∙ ap (λ m. combined_images r m images start c i) next

-- the mask of a bit, of thirty-two places
pub chosen_bits : (c x : ℕ) → c < 2 → x < 2 ^ 32 → bit_and ((0 + (2 ^ 32 - c)) % 2 ^ 32) x ≡ c * x
chosen_bits zero x l fits = let none : 0 ≡ 0 * x = omega arith in none
chosen_bits (suc zero) x l fits =
    and_comm (2 ^ 32 - 1) x ∙ and_mask x 32 ∙ mod-eq_of_lt fits ∙ omega arith
chosen_bits (suc (suc c)) x l fits = absurd (omega arith)

-- packed numbers have few bits
pub packed_fits : (n c x : ℕ) → n ≤ 16 → c * 2 + x < 2 ^ n → c * 2 + x < 2 ^ 32
packed_fits n c x room low =
    let small : 2 ^ n ≤ 2 ^ 16 = pow-le-pow_right (omega arith) {i = n} {j = 16} room in
    omega arith

-- one more bit below the bits from place i on
pub bit_pushed : (g : ℕ → ℕ) (c x n i : ℕ) → 0 < i → x < 2 → x ≡ g (i - 1) → ((j : ℕ) → i + j < n → bit_at c j ≡ g (i + j))
    → (j : ℕ) → i - 1 + j < n → bit_at (c * 2 + x) j ≡ g (i - 1 + j)
bit_pushed g c x n i pos low is before zero l =
    let here : i - 1 ≡ i - 1 + 0 = omega arith in
    omega (arith, bit_at_lowest (c * 2 + x), is, ap g here)
bit_pushed g c x n i pos low is before (suc j) l =
    let half : (c * 2 + x) / 2 ≡ c = omega arith in
    let place : i + j ≡ i - 1 + suc j = omega arith in
    bit_at-suc (c * 2 + x) j ∙ ap (λ y. bit_at y j) half ∙ before j (omega arith) ∙ ap g place
