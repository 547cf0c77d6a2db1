use Rattle.std.proofs.Common.{◌≡◌, ◌-◌, ◌+◌, ◌<◌, ◌≤◌, suc, length, sym, ap, subst, ◌∙◌, arith}
use Rattle.ring_core.specs.Ring.{IsElem}
use Rattle.residue_field.specs.declared.TheConstants.{WIDTH}
use Rattle.residue_field.specs.TopElem.{top_places}
use Rattle.residue_field.specs.steps.Stored.{residue_unit}
use Rattle.residue_field.proofs.AlgebraLaws.{unit_in}
use Rattle.field_tower.specs.steps.Places.{stored_ops}
use Rattle.field_tower.specs.steps.Algebra.{stored_coords, stored_algebra}
use Rattle.field_tower.proofs.residue_ring.ResiduesAlgebra.unit.Goals as goal

pub unit-requires-clause-place : goal.unit-requires-clause-place
unit-requires-clause-place g c =
    let degree : 2 ≤ length c.args.self.now.modulus.now = c.args.self.now.monic.degree in
    let place : c.args.j < suc (length c.args.self.now.modulus.now - 2) = c.requires in
    omega arith

pub unit-requires-clause-room : goal.unit-requires-clause-room
unit-requires-clause-room g c =
    let room : length c.args.self.now.modulus.now ≤ WIDTH + 1 = c.args.self.now.monic.room in
    omega arith

pub returns-clause-value : goal.returns-clause-value
returns-clause-value g c =
    let r = g.F.Field.ops c.args.self.now.field.now in
    let modulus = c.args.self.now.modulus.now in
    let degree : length modulus - 1 - 1 ≡ length modulus - 2 = omega arith in
    c.unit.ensures ∙ ap (λ d. residue_unit r (top_places r d) c.args.j) degree

pub returns-clause-elem : goal.returns-clause-elem
returns-clause-elem g c =
    let k = c.args.self.now in
    let r = g.F.Field.ops k.field.now in
    let field = g.met.F.Field.laws k.field.now in
    let law = stored_algebra r field.ring field.mul_comm k.modulus.now k.monic in
    subst (IsElem (stored_ops r k.modulus.now)) (sym (returns-clause-value g c))
    (unit_in r field.ring (stored_ops r k.modulus.now) (stored_coords r k.modulus.now) law c.args.j)
