use Rattle.std.proofs.Common.{◌≡◌, ℕ, ◌-◌, length, sym, ◌∙◌, arith}
use Rattle.ring_core.specs.Coeffs.{coeff}
use Rattle.residue_field.specs.declared.TheConstants.{WIDTH}
use Rattle.residue_field.specs.Base.{ops_of}
use Rattle.residue_field.proofs.BaseLaws.{base_ring}
use Rattle.field_tower.specs.steps.Places.{stored, stored_ops}
use Rattle.field_tower.proofs.KindValues.{binary_negative}
use Rattle.field_tower.proofs.Stored.{stored_from, stores_of, stored_of}
use Rattle.field_tower.proofs.products.neg.Goals as goal

pub returns-then-p-eq2 : goal.returns-then-p-eq2
unfolding stored_ops stored
returns-then-p-eq2 c =
    let base = c.args.base.now in
    let r = ops_of base in
    let modulus = c.args.modulus.now in
    let a = c.args.a in
    let two = sym c.p.ensures ∙ c.if-p-eq2.true in
    let stored_a = stored_of r modulus a c.requires.elem in
    let places = stores_of r (base_ring base) modulus c.requires.monic in
    let width : length a.0 ≡ WIDTH = omega arith in
    let same : (i : ℕ) → coeff r a.0 i ≡ r.neg (coeff r a.0 i) = λ i. binary_negative base two (coeff r a.0 i) (places.place_in a i stored_a) in
    stored_from r (length modulus - 2) a.0 (λ i. r.neg (coeff r a.0 i)) width (λ i l. same i) (λ i l. places.place_past a i stored_a l)
