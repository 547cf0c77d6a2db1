-- A full list has few members: the leads are distinct modulo the square of the degree of the field.
use Rattle.std.proofs.Common.{◌≡◌, ℕ, ◌*◌, ◌^◌, ◌%◌, ◌<◌, ◌≤◌, List, length, refl, subst, ⊎_elim, arith}
use Rattle.std.proofs.lemmas.Bool.{cases_lt}
use Rattle.std.proofs.lemmas.Nat.{mod_below, mul-le}
use Rattle.finite_ring.proofs.Pigeon.{pigeon}
use Rattle.residue_field.specs.declared.TopElem.{TopElem}
use Rattle.residue_field.specs.Base.{ops_of}
use Rattle.residue_field.specs.Top.{Top, ops_of_top, frob_of_top}
use Rattle.residue_field.proofs.TopFrob.{top_frob_field}
use Rattle.ring_core.specs.Ring.{RingOps}
use Rattle.ring_core.specs.Field.{FrobOps}
use Rattle.hom_space.specs.Full.{IsFullList}

module _ {E B : Type 0} (r : RingOps E) (base : RingOps B) (f : FrobOps E B) (phi psi : List E) (list : List (List E)) (p : IsFullList r base f phi psi list) where
  count_bound : (w : ℕ) → w ≡ f.degree * f.degree → 0 < w → length list ≤ w
  count_bound w is pos =
      ⊎_elim
      (λ (more : w < length list).
      let m = pigeon w (λ i. p.lead i % w) (λ i l. mod_below (p.lead i) w pos) in
      let order : m.first < m.second = m.order in
      let within : m.second ≤ w = m.within in
      absurd (p.places m.first m.second (omega (arith, order, within, more)) (omega (arith, within, more)) (λ e. omega (arith, order, e)) (subst (λ n. p.lead m.first % n ≡ p.lead m.second % n) is m.same)))
      (λ (few : length list ≤ w). few)
      (cases_lt w (length list))

-- So their number fits.
pub count_fits : (t : Top) (phi psi : List TopElem) (list : List (List TopElem)) → IsFullList (ops_of_top t) (ops_of t.base) (frob_of_top t) phi psi list → length list < 2 ^ 32
count_fits t phi psi list p =
    let laws = top_frob_field t in
    let pos : 1 ≤ t.n = laws.degree_pos in
    let small : t.n ≤ 16 = laws.degree_small in
    let least : 1 * 1 ≤ t.n * t.n = mul-le 1 1 t.n t.n pos pos in
    let most : t.n * t.n ≤ 16 * 16 = mul-le t.n t.n 16 16 small small in
    let few : length list ≤ t.n * t.n = count_bound (ops_of_top t) (ops_of t.base) (frob_of_top t) phi psi list p (t.n * t.n) refl (omega (arith, least)) in
    omega (arith, few, most)
