use Rattle.std.proofs.Common.{◌≡◌, ◌-◌, ◌+◌, ◌≤◌, suc, length, take, ap, ◌∙◌, arith, eqb-true, get_or-take}
use Rattle.std.proofs.lemmas.Bool.{and_parts}
use Rattle.std.proofs.lemmas.List.{length-take-le}
use Rattle.ring_core.specs.Coeffs.{coeff, first_values}
use Rattle.ring_core.proofs.Coefficients.{values_by_coeffs}
use Rattle.residue_field.specs.declared.TheConstants.{WIDTH}
use Rattle.field_tower.specs.steps.Places.{stored_ops}
use Rattle.field_tower.proofs.residue_ring.ResiduesAlgebra.coords.Goals as goal

pub returns : goal.returns
unfolding stored_ops
returns g c =
    let r = g.F.Field.ops c.args.self.now.field.now in
    let modulus = c.args.self.now.modulus.now in
    let x = c.args.x.now in
    let degree : 2 ≤ length modulus = c.args.self.now.monic.degree in
    let room : length modulus ≤ WIDTH + 1 = c.args.self.now.monic.room in
    let width : length x.0 ≡ WIDTH = eqb-true _ _ (and_parts _ _ c.requires).0 in
    let n = length modulus - 1 in
    let next : n ≡ suc (length modulus - 2) = omega arith in
    values_by_coeffs r (take n x.0) n (coeff r x.0) (length-take-le n x.0 (omega arith)) (λ i l. get_or-take n x.0 i r.zero l)
    ∙ ap (λ k. first_values k (coeff r x.0)) next
