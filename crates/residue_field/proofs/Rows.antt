-- The product of residues row by row, as code computes it: a_0 b + x (a_1 b + x (..)), each product by x
-- modulo f.
use Rattle.std.proofs.Common.{◌≡◌, ℕ, zero, suc, ◌+◌, ◌≤◌, sym, refl, ap, ◌∙◌, arith}
use mathlib.Core.Path.{fun_ext}
use Rattle.ring_core.specs.Ring.{RingOps, IsElem, IsRing, IsCommutative}
use Rattle.ring_core.proofs.Carrier.{Element, elements, same_element}
use Rattle.finite_ring.proofs.FieldOf.{commute_on}
use Rattle.residue_field.specs.Residue.{times_x, residue, product}
use Rattle.residue_field.proofs.Act.{act, constant, act-one}
use Rattle.residue_field.proofs.Reduce.{convolve, act-product}
use Rattle.residue_field.proofs.ResidueRing.{product-value, times-x-value, residue-value}

-- the first k rows
abbrev pub rows : {E : Type 0} → RingOps E → ℕ → (ℕ → E) → ℕ → (ℕ → E) → (ℕ → E) → ℕ → E
rows r n f zero a v i = r.zero
rows r n f (suc k) a v i = r.add (r.mul (a 0) (v i)) (times_x r n f (rows r n f k (λ j. a (suc j)) v) i)

rows-value : {E : Type 0} (r : RingOps E) (h : IsRing r) (n : ℕ) (f : ℕ → Element r) (k : ℕ) (a v : ℕ → Element r) (i : ℕ)
    → rows r n (λ j. (f j).0) k (λ j. (a j).0) (λ j. (v j).0) i ≡ (act (elements h) n f k a v i).0
rows-value r h n f zero a v i = refl
rows-value r h n f (suc k) a v i =
    let rest = λ (j : ℕ). a (suc j) in
    ap (r.add (r.mul (a 0).0 (v i).0))
    (ap (λ w. times_x r n (λ j. (f j).0) w i) (fun_ext (rows-value r h n f k rest v))
    ∙ times-x-value r h n f (act (elements h) n f k rest v) i)

module _ {E : Type 0} (r : RingOps E) (h : IsRing r) (commutes : IsCommutative r) (n : ℕ) (f a b : ℕ → E)
    (f_in : (i : ℕ) → IsElem r (f i)) (a_in : (i : ℕ) → IsElem r (a i)) (b_in : (i : ℕ) → IsElem r (b i)) where
  -- the rows of factors that are zero past n give the residue of their product
  pub product_by_rows : ((i : ℕ) → suc n ≤ i → a i ≡ r.zero) → ((i : ℕ) → suc n ≤ i → b i ≡ r.zero)
      → (i : ℕ) → rows r n f (suc n) a b i ≡ residue r n f (n + 1 + (n + 1)) (product r a b) i
  product_by_rows a_past b_past i =
      let R = elements h in
      let comm = commute_on r h commutes in
      let fs : ℕ → Element r = λ j. (f j, f_in j) in
      let u : ℕ → Element r = λ j. (a j, a_in j) in
      let v : ℕ → Element r = λ j. (b j, b_in j) in
      let below_u = λ (j : ℕ) (l : suc n ≤ j). same_element r (u j) R.zero (a_past j l) in
      let below_v = λ (j : ℕ) (l : suc n ≤ j). same_element r (v j) R.zero (b_past j l) in
      let count : n + 1 + (n + 1) ≡ suc n + suc n = omega arith in
      rows-value r h n fs (suc n) u v i
      ∙ ap (λ w. (act R n fs (suc n) u w i).0) (sym (fun_ext (act-one R comm n fs (suc n) v (omega arith) below_v)))
      ∙ ap (λ x. x.0) (sym (act-product R comm n fs (suc n) (suc n) u v (constant R R.one) below_u below_v i))
      ∙ sym (residue-value r h n fs (suc n + suc n) (convolve R u v) i)
      ∙ sym (ap (λ g. residue r n f (suc n + suc n) g i) (fun_ext (product-value r h u v)))
      ∙ sym (ap (λ k. residue r n f k (product r a b) i) count)
