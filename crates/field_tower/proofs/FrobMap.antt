-- The Frobenius of a top field from the images of the powers of the letter.
use Rattle.std.proofs.Common.{◌≡◌, ℕ, suc, ◌+◌, ◌-◌, ◌*◌, ◌/◌, ◌%◌, ◌^◌, ◌<◌, ◌≤◌, nat_eq, true, List, length, sym, ap, ap₂, subst, ◌∙◌, arith, eqb-true, mul-le-mul_right}
use Rattle.std.proofs.Math.Nat.{mod-eq_of_lt, div-eq_of_lt, add-div_right, add-mod_right}
use Rattle.std.proofs.lemmas.Bool.{and_parts, cond_both}
use Rattle.std.proofs.lemmas.Nat.{div-mul-add, mod-mul-add}
use Rattle.ring_core.specs.Ring.{IsElem}
use Rattle.ring_core.specs.Coeffs.{coeff, are_elems, first_values}
use Rattle.ring_core.specs.Powers.{power_of}
use Rattle.ring_core.proofs.FirstValues.{length-first_values, at-first_values}
use Rattle.ring_core.proofs.Twist.{sum_same}
use Rattle.ring_core.proofs.PowerLaws.{power_in}
use Rattle.residue_field.specs.declared.TopElem.{TopElem}
use Rattle.residue_field.specs.steps.Stored.{residue_unit}
use Rattle.residue_field.specs.TopElem.{top_places}
use Rattle.residue_field.specs.Base.{Base, ops_of, size_of}
use Rattle.residue_field.specs.Top.{Top, top_ops, ops_of_top, frob_of_top}
use Rattle.residue_field.proofs.BaseLaws.{base_ring}
use Rattle.residue_field.proofs.TopLaws.{IsTopShape, top_shape_ring, top_stored, top_shape_of, top_degree}
use Rattle.residue_field.proofs.TopFrob.{top_frob_field, frob_places}
use Rattle.ring_core.proofs.Twist.{frob_mod}
use Rattle.field_tower.specs.steps.Places.{IsStored, stored, stored_ops}
use Rattle.field_tower.specs.steps.LetterPowers.{letter_power, letter_image}
use Rattle.field_tower.specs.steps.Images.{frob_image, image_at, combined_images}
use Rattle.field_tower.proofs.Stored.{stored_from}
use Rattle.field_tower.proofs.PowerSteps.{power_none, power_once, power_size}
use Rattle.field_tower.proofs.TopValues.{top_elems, stored-top}

pub image-read : (images : List TopElem) (count : ℕ) (f : ℕ → TopElem) → images ≡ first_values count f → (k : ℕ) → k < count → image_at images k ≡ f k
image-read images count f e k l = ap (λ t. image_at t k) e ∙ at-first_values count f k _ l

pub images_count : (images : List TopElem) (count : ℕ) (f : ℕ → TopElem) → images ≡ first_values count f → length images ≡ count
images_count images count f e = ap length e ∙ length-first_values count f

module _ (base : Base) (n : ℕ) (modulus : List ℕ) (positive : 0 < n) (shape : IsTopShape base (n - 1) modulus) where
  unit_in : (j : ℕ) → j < n → IsElem (top_ops base (n - 1) modulus) (residue_unit (ops_of base) (top_places (ops_of base) (n - 1)) j)
  unfolding top_ops
  unit_in j l =
      let r = ops_of base in
      let closed = (base_ring base).closed in
      (top_stored base (n - 1) modulus shape).pack_in _
      (λ i. cond_both (nat_eq j i) r.one r.zero (IsElem r) (λ _. closed.one_in) (λ _. closed.zero_in))

  pub image_in : (k : ℕ) → IsElem (top_ops base (n - 1) modulus) (frob_image base n modulus k)
  unfolding frob_image
  image_in k =
      power_in (top_ops base (n - 1) modulus) (top_shape_ring base (n - 1) modulus shape) _ (size_of base ^ (k / n))
      (unit_in (k % n) (omega arith))

  pub image_first : (k : ℕ) → k < n → residue_unit (ops_of base) (top_places (ops_of base) (n - 1)) k ≡ frob_image base n modulus k
  unfolding frob_image
  image_first k l =
      let ops = top_ops base (n - 1) modulus in
      let unit = residue_unit (ops_of base) (top_places (ops_of base) (n - 1)) in
      sym (power_none ops (top_shape_ring base (n - 1) modulus shape) (unit k) (unit_in k l) (size_of base))
      ∙ ap₂ (λ j i. power_of ops (unit j) (size_of base ^ i)) (sym (mod-eq_of_lt l)) (sym (div-eq_of_lt l))

  pub image_next : (k m : ℕ) → m ≡ k + n → power_of (top_ops base (n - 1) modulus) (frob_image base n modulus k) (size_of base) ≡ frob_image base n modulus m
  unfolding frob_image
  image_next k m e =
      let ops = top_ops base (n - 1) modulus in
      let unit = residue_unit (ops_of base) (top_places (ops_of base) (n - 1)) in
      let place : m % n ≡ k % n = ap (λ x. x % n) e ∙ add-mod_right k n in
      let step : m / n ≡ k / n + 1 = ap (λ x. x / n) e ∙ add-div_right k positive in
      power_size ops (top_shape_ring base (n - 1) modulus shape) (unit (k % n)) (unit_in (k % n) (omega arith)) (size_of base) (k / n)
      ∙ ap₂ (λ j i. power_of ops (unit j) (size_of base ^ i)) (sym place) (sym step)

  -- the image under the first power is the power by the number of constants
  pub image_second : length modulus ≡ n + 1 → (m : ℕ) → n ≤ m → m < 2 * n → letter_image (ops_of base) (size_of base) modulus (m - n) ≡ frob_image base n modulus m
  image_second len m high low =
      let r = ops_of base in
      let q = size_of base in
      let t = top_ops base (n - 1) modulus in
      let count : length modulus - 1 ≡ n = omega arith in
      ap (λ k. power_of (stored_ops r modulus) (letter_power r k (m - n)) q) count
      ∙ ap (λ u. power_of u (letter_power r n (m - n)) q) (stored-top base n modulus len)
      ∙ ap (λ x. power_of t x q) (image_first (m - n) (omega arith))
      ∙ image_next (m - n) m (omega arith)

stored_elem : (t : Top) (a : TopElem) → IsElem (ops_of_top t) a → IsStored (ops_of t.base) (t.n - 1) a
unfolding top_ops
stored_elem t a e = e

-- the image of a power of the letter
pub image_row : (t : Top) (i j : ℕ) → j < t.n
    → frob_image t.base t.n t.modulus (i * t.n + j) ≡ (frob_of_top t).frob (residue_unit (ops_of t.base) (top_places (ops_of t.base) (t.n - 1)) j) i
unfolding frob_image
image_row t i j m =
    let unit = residue_unit (ops_of t.base) (top_places (ops_of t.base) (t.n - 1)) in
    ap₂ (λ a b. power_of (ops_of_top t) (unit a) (size_of t.base ^ b)) (mod-mul-add i t.n j m) (div-mul-add i t.n j m)

positive_degree : (t : Top) → 0 < t.n
positive_degree t = t.is_top.positive

-- the rows of images that a part of the list holds
module _ (t : Top) (images : List TopElem) (count : ℕ) (are : images ≡ first_values count (frob_image t.base t.n t.modulus)) where
  pub part_elems : (k : ℕ) → k < length images → are_elems (ops_of t.base) (image_at images k).0 ≡ true
  part_elems k l =
      let len : length images ≡ count = images_count images count (frob_image t.base t.n t.modulus) are in
      let low : k < count = omega arith in
      ap (λ x. are_elems (ops_of t.base) x.0) (image-read images count (frob_image t.base t.n t.modulus) are k low)
      ∙ top_elems t _ (image_in t.base t.n t.modulus (positive_degree t) (top_shape_of t) k)

  pub part_stored : (k : ℕ) → k < length images → IsStored (ops_of t.base) (t.n - 1) (image_at images k)
  part_stored k l =
      let len : length images ≡ count = images_count images count (frob_image t.base t.n t.modulus) are in
      let low : k < count = omega arith in
      subst (IsStored (ops_of t.base) (t.n - 1)) (sym (image-read images count (frob_image t.base t.n t.modulus) are k low))
      (stored_elem t _ (image_in t.base t.n t.modulus (positive_degree t) (top_shape_of t) k))

  combined_is : (c : TopElem) (i l : ℕ) → IsElem (ops_of_top t) c → i * t.n + t.n ≤ count → l < t.n
      → coeff (ops_of t.base) ((frob_of_top t).frob c i).0 l ≡ combined_images (ops_of t.base) t.n images (i * t.n) c l
  unfolding combined_images
  combined_is c i l c_in rows place =
      let r = ops_of t.base in
      frob_places t c i l c_in place
      ∙ sum_same r (base_ring t.base) t.n _ _ (λ j (m : j < t.n).
      ap (λ x. r.mul (coeff r c.0 j) (coeff r x.0 l))
      (sym (image-read images count (frob_image t.base t.n t.modulus) are (i * t.n + j) (omega arith) ∙ image_row t i j m)))

  pub part_frob : (c : TopElem) (i : ℕ) → IsElem (ops_of_top t) c → i * t.n + t.n ≤ count
      → (frob_of_top t).frob c i ≡ stored (ops_of t.base) (t.n - 1) (combined_images (ops_of t.base) t.n images (i * t.n) c)
  part_frob c i c_in rows =
      let x = (frob_of_top t).frob c i in
      let x_in = (top_frob_field t).frob_in c i c_in in
      let e : IsStored (ops_of t.base) (t.n - 1) x = stored_elem t x x_in in
      stored_from (ops_of t.base) (t.n - 1) x.0 (combined_images (ops_of t.base) t.n images (i * t.n) c) (eqb-true _ _ (and_parts _ _ e).0)
      (λ l (m : l < suc (t.n - 1)). combined_is c i l c_in rows (subst (λ d. l < d) (top_degree t) m))
      (λ l m. (top_stored t.base (t.n - 1) t.modulus (top_shape_of t)).place_past x l e m)

-- an image from the row before it, by the first row
pub image_mapped : (t : Top) (images : List TopElem) (m : ℕ) → images ≡ first_values m (frob_image t.base t.n t.modulus) → t.n + t.n ≤ m
    → stored (ops_of t.base) (t.n - 1) (combined_images (ops_of t.base) t.n images t.n (image_at images (m - t.n))) ≡ frob_image t.base t.n t.modulus m
image_mapped t images m are rows =
    let positive = positive_degree t in
    let r = ops_of t.base in
    let q = size_of t.base in
    let c = frob_image t.base t.n t.modulus (m - t.n) in
    let once : t.n ≡ 1 * t.n = omega arith in
    let first : 1 * t.n + t.n ≤ m = omega arith in
    ap (λ x. stored r (t.n - 1) (combined_images r t.n images t.n x)) (image-read images m (frob_image t.base t.n t.modulus) are (m - t.n) (omega arith))
    ∙ ap (λ s. stored r (t.n - 1) (combined_images r t.n images s c)) once
    ∙ sym (part_frob t images m are c 1 (image_in t.base t.n t.modulus positive (top_shape_of t) (m - t.n)) first)
    ∙ ap (power_of (ops_of_top t) c) (power_once q)
    ∙ image_next t.base t.n t.modulus positive (top_shape_of t) (m - t.n) m (omega arith)

module _ (t : Top) (images : List TopElem) (are : images ≡ first_values (t.n * t.n) (frob_image t.base t.n t.modulus)) where
  pub images_stored : (k : ℕ) → k < length images → IsStored (ops_of t.base) (t.n - 1) (image_at images k)
  images_stored = part_stored t images (t.n * t.n) are

  -- a row of images stands in the list
  pub row_inside : (i : ℕ) → i < t.n → i * t.n + t.n ≤ length images
  row_inside i l =
      let count : length images ≡ t.n * t.n = images_count images (t.n * t.n) (frob_image t.base t.n t.modulus) are in
      let rows : suc i * t.n ≤ t.n * t.n = mul-le-mul_right t.n l in
      omega arith

  frob_map : (c : TopElem) (i : ℕ) → IsElem (ops_of_top t) c
      → stored (ops_of t.base) (t.n - 1) (combined_images (ops_of t.base) t.n images (i % t.n * t.n) c) ≡ (frob_of_top t).frob c i
  frob_map c i c_in =
      let positive = positive_degree t in
      let low : i % t.n < t.n = omega arith in
      let rows : suc (i % t.n) * t.n ≤ t.n * t.n = mul-le-mul_right t.n low in
      sym (part_frob t images (t.n * t.n) are c (i % t.n) c_in (omega arith))
      ∙ frob_mod (ops_of_top t) (ops_of t.base) (frob_of_top t) (top_frob_field t) c i c_in

  -- from the fields of a value to the value
  pub frob_inside : (s : Top) → t ≡ s → (c : TopElem) (i : ℕ) → IsElem (ops_of_top s) c
      → stored (ops_of t.base) (t.n - 1) (combined_images (ops_of t.base) t.n images (i % t.n * t.n) c) ≡ power_of (ops_of_top s) c (size_of s.base ^ i)
  frob_inside s e c i c_in =
      frob_map c i (subst (λ u. IsElem (ops_of_top u) c) (sym e) c_in) ∙ ap (λ u. power_of (ops_of_top u) c (size_of u.base ^ i)) e
