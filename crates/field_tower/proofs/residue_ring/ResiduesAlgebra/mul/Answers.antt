use Rattle.std.proofs.Common.{◌≡◌, ◌+◌, ◌-◌, ◌<◌, ◌≤◌, suc, length, sym, subst, ◌∙◌, arith}
use Rattle.ring_core.specs.Ring.{IsElem}
use Rattle.ring_core.specs.Coeffs.{coeff}
use Rattle.residue_field.specs.declared.TheConstants.{WIDTH}
use Rattle.residue_field.specs.Residue.{residue, product}
use Rattle.residue_field.proofs.TopPlaces.{elems_of}
use Rattle.field_tower.specs.steps.Places.{stored, stored_ops}
use Rattle.field_tower.proofs.Stored.{fits_of, stores_of, stored_from, stored_ring}
use Rattle.field_tower.proofs.residue_ring.ResiduesAlgebra.mul.Goals as goal

pub multiply-requires-clause-left : goal.multiply-requires-clause-left
unfolding stored_ops
multiply-requires-clause-left g c =
    let r = g.F.Field.ops c.args.self.now.field.now in
    let ring = (g.met.F.Field.laws c.args.self.now.field.now).ring in
    let modulus = c.args.self.now.modulus.now in
    elems_of r ring (length modulus - 2) (fits_of r ring modulus c.args.self.now.monic) c.args.a c.requires.left

pub multiply-requires-clause-right : goal.multiply-requires-clause-right
unfolding stored_ops
multiply-requires-clause-right g c =
    let r = g.F.Field.ops c.args.self.now.field.now in
    let ring = (g.met.F.Field.laws c.args.self.now.field.now).ring in
    let modulus = c.args.self.now.modulus.now in
    elems_of r ring (length modulus - 2) (fits_of r ring modulus c.args.self.now.monic) c.args.b c.requires.right

pub multiply-requires-clause-left_past : goal.multiply-requires-clause-left_past
unfolding stored_ops
multiply-requires-clause-left_past g c =
    let r = g.F.Field.ops c.args.self.now.field.now in
    let ring = (g.met.F.Field.laws c.args.self.now.field.now).ring in
    let modulus = c.args.self.now.modulus.now in
    let degree = c.args.self.now.monic.degree in
    λ i (l : length modulus - 1 ≤ i). (stores_of r ring modulus c.args.self.now.monic).place_past c.args.a i c.requires.left (omega arith)

pub multiply-requires-clause-right_past : goal.multiply-requires-clause-right_past
unfolding stored_ops
multiply-requires-clause-right_past g c =
    let r = g.F.Field.ops c.args.self.now.field.now in
    let ring = (g.met.F.Field.laws c.args.self.now.field.now).ring in
    let modulus = c.args.self.now.modulus.now in
    let degree = c.args.self.now.monic.degree in
    λ i (l : length modulus - 1 ≤ i). (stores_of r ring modulus c.args.self.now.monic).place_past c.args.b i c.requires.right (omega arith)

pub returns-clause-value : goal.returns-clause-value
unfolding stored_ops stored
returns-clause-value g c =
    let r = g.F.Field.ops c.args.self.now.field.now in
    let modulus = c.args.self.now.modulus.now in
    let d = length modulus - 2 in
    let degree = c.args.self.now.monic.degree in
    let width : length c.multiply.new.out ≡ WIDTH = omega arith in
    stored_from r d c.multiply.new.out (residue r d (coeff r modulus) (d + 1 + (d + 1)) (product r (coeff r c.args.a.0) (coeff r c.args.b.0))) width
    (λ j (l : j < suc d). c.multiply.ensures.values j (omega arith))
    (λ j (l : suc d ≤ j). c.multiply.ensures.kept j (omega arith) ∙ c.zeros-places.ensures.values j)

pub returns-clause-elem : goal.returns-clause-elem
returns-clause-elem g c =
    let r = g.F.Field.ops c.args.self.now.field.now in
    let field = g.met.F.Field.laws c.args.self.now.field.now in
    let ring = stored_ring r field.ring c.args.self.now.modulus.now c.args.self.now.monic field.mul_comm in
    subst (IsElem (stored_ops r c.args.self.now.modulus.now)) (sym (returns-clause-value g c)) (ring.closed.mul_in _ _ c.requires.left c.requires.right)
