-- The twisted polynomial with given motive coordinates, by Horner's rule.
use Rattle.std.proofs.Common.{◌≡◌, ℕ, zero, suc, ◌+◌, ◌-◌, ◌<◌, ◌≤◌, inl, inr, Option, true, List, length, refl, sym, ◌∙◌, ap, ap₂, arith, subst}
use mathlib.Core.Path.{fun_ext}
use Rattle.std.proofs.lemmas.Bool.{cases_lt}
use Rattle.ring_core.specs.Ring.{RingOps}
use Rattle.ring_core.specs.Field.{IsField, FrobOps, IsFrobField}
use Rattle.ring_core.specs.Coeffs.{coeff, are_elems, is_canonical}
use Rattle.ring_core.specs.Twisted.{twisted_ops, list_add, list_mul}
use Rattle.ring_core.proofs.Carrier.{RingOn, Element, same_element}
use Rattle.ring_core.proofs.Coefficients.{coeff_past, coeff-list_of, canonical-list_of}
use Rattle.motive_coords.specs.Motive.{motive_value}
use Rattle.motive_coords.specs.steps.Expansion.{digit_at, digits_value}
use Rattle.motive_coords.proofs.Digits.{expanded}
use Rattle.motive_coords.proofs.Ores.{twisted, twisted_same}
use Rattle.motive_coords.proofs.MotiveValue.{members, list_size, list_past, gathered, gathered_part, gathered_past, value_of, value_digits, value_list}

-- one step of Horner's rule, from the top down
pub value_step : {E : Type 0} (r : RingOps E) (frob : E → ℕ → E) (phi : List E) (list : List (List E)) (n j : ℕ) (sum shifted lowest next : List E) → 0 < j → j ≤ n
    → sum ≡ digits_value r frob phi list j (n - j) → shifted ≡ list_mul r frob sum phi → lowest ≡ digit_at r list (j - 1) → next ≡ list_add r shifted lowest
    → next ≡ digits_value r frob phi list (j - 1) (n - (j - 1))
value_step r frob phi list n j sum shifted lowest next pos most is_sum is_shifted is_lowest is_next =
    let place : j ≡ suc (j - 1) = omega arith in
    let more : suc (n - j) ≡ n - (j - 1) = omega arith in
    is_next
    ∙ ap₂ (list_add r) (is_shifted ∙ ap (λ t. list_mul r frob t phi) (is_sum ∙ ap (λ i. digits_value r frob phi list i (n - j)) place)) is_lowest
    ∙ ap (digits_value r frob phi list (j - 1)) more

module _ {E B : Type 0} (r : RingOps E) (inv : E → Option E) (base : RingOps B) (f : FrobOps E B) (k : IsField r inv) (l : IsFrobField r base f)
    (b : Element (twisted_ops r f.frob)) (d : ℕ) (degree : length b.0 ≡ suc d) (pos : 1 ≤ d)
    (list : List (List E)) (inside : are_elems (twisted_ops r (λ c i. c)) list ≡ true) (count : length list ≡ d) where
  abbrev S : RingOn (Element (twisted_ops r f.frob))
  S = twisted r inv base f k l

  abbrev c : ℕ → ℕ → Element r
  c = members r inv base f k l b d degree pos list inside

  digit : ℕ → Element (twisted_ops r f.frob)
  digit j = gathered r inv base f k l d (λ i. c i j)

  member_past : (i j : ℕ) → length list ≤ i → coeff r (coeff (twisted_ops r (λ c i. c)) list i) j ≡ r.zero
  member_past i j m = ap (λ t. coeff r t j) (coeff_past (twisted_ops r (λ c i. c)) list i m)

  digit_is : (j : ℕ) → digit_at r list j ≡ (digit j).0
  unfolding digit
  digit_is j =
      let own : Element (twisted_ops r f.frob) = (digit_at r list j, canonical-list_of r (length list) (λ i. coeff r (coeff (twisted_ops r (λ c i. c)) list i) j) (λ i _. (c i j).1)) in
      ap (λ (t : Element (twisted_ops r f.frob)). t.0) (twisted_same r inv base f k l own (gathered r inv base f k l d (λ i. c i j)) (λ i.
      same_element r _ (c i j) (coeff-list_of r k.ring.closed.zero_in k.ring.equal (length list) (λ i. coeff r (coeff (twisted_ops r (λ c i. c)) list i) j) (λ i. (c i j).1) (λ i m. member_past i j m) i)
      ∙ (elim (cases_lt i d) [
        | inl m ↦ sym (gathered_part r inv base f k l d (λ i. c i j) i m)
        | inr m ↦
            same_element r (c i j) (elements_zero) (member_past i j (omega (arith, count, m)))
            ∙ sym (gathered_past r inv base f k l d (λ i. c i j) i m)
      ])))
    where
      elements_zero : Element r
      elements_zero = (r.zero, k.ring.closed.zero_in)

  value_from : (from n : ℕ) → digits_value r f.frob b.0 list from n ≡ (expanded S b n (λ e. digit (from + e))).0
  value_from from zero = refl
  value_from from (suc n) =
      ap₂ (λ s t. list_add r (list_mul r f.frob s b.0) t)
      (value_from (suc from) n ∙ ap (λ t. (expanded S b n t).0) (fun_ext (λ (e : ℕ). let same : suc from + e ≡ from + suc e = omega arith in ap digit same)))
      (digit_is from ∙ (let same : from ≡ from + 0 = omega arith in ap (λ i. (digit i).0) same))

  -- the digits below a bound of the members' lengths give the value
  pub motive_of : (n : ℕ) → ((i : ℕ) → length (coeff (twisted_ops r (λ c i. c)) list i) ≤ n) → digits_value r f.frob b.0 list 0 n ≡ motive_value r f.frob b.0 list
  unfolding digit
  motive_of n bound =
      value_from 0 n
      ∙ ap (λ t. (expanded S b n t).0) (fun_ext (λ (e : ℕ). let same : 0 + e ≡ e = omega arith in ap digit same))
      ∙ ap (λ (t : Element (twisted_ops r f.frob)). t.0) (sym (value_digits r inv base f k l b d degree pos c (list_size r inv base f k l b d degree pos list inside) (list_past r inv base f k l b d degree pos list inside) n (λ i _. bound i)))
      ∙ value_list r inv base f k l b d degree pos list inside count

  pub value_in : is_canonical r (motive_value r f.frob b.0 list) ≡ true
  value_in =
      subst (λ t. is_canonical r t ≡ true) (value_list r inv base f k l b d degree pos list inside count)
      (value_of r inv base f k l b d degree pos c (list_size r inv base f k l b d degree pos list inside) (list_past r inv base f k l b d degree pos list inside)).1
