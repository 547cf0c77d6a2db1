use Rattle.std.proofs.Common.{◌≡◌, ◌-◌, ◌+◌, ◌≤◌, suc, length, sym, ap, subst, ◌∙◌, arith}
use Rattle.ring_core.specs.Ring.{IsElem}
use Rattle.ring_core.specs.Coeffs.{coeff}
use Rattle.ring_core.proofs.Coefficients.{elem_read}
use Rattle.residue_field.specs.declared.TheConstants.{WIDTH}
use Rattle.field_tower.specs.steps.Places.{stored, stored_ops}
use Rattle.field_tower.specs.steps.Algebra.{stored_algebra}
use Rattle.field_tower.proofs.residue_ring.ResiduesAlgebra.of_coords.Goals as goal

pub residue_of-requires-clause-some : goal.residue_of-requires-clause-some
residue_of-requires-clause-some g c = omega (arith, c.requires.places)

pub residue_of-requires-clause-room : goal.residue_of-requires-clause-room
residue_of-requires-clause-room g c =
    let degree : 2 ≤ length c.args.self.now.modulus.now = c.args.self.now.monic.degree in
    let room : length c.args.self.now.modulus.now ≤ WIDTH + 1 = c.args.self.now.monic.room in
    let count : length c.args.list.now ≡ suc (length c.args.self.now.modulus.now - 2) = c.requires.places in
    omega arith

pub returns-clause-value : goal.returns-clause-value
unfolding stored
returns-clause-value g c =
    let r = g.F.Field.ops c.args.self.now.field.now in
    let modulus = c.args.self.now.modulus.now in
    let list = c.args.list.now in
    let count : length list ≡ suc (length modulus - 2) = c.requires.places in
    let degree : length list - 1 ≡ length modulus - 2 = omega arith in
    c.residue_of.ensures ∙ ap (λ d. stored r d (coeff r list)) degree

pub returns-clause-elem : goal.returns-clause-elem
returns-clause-elem g c =
    let k = c.args.self.now in
    let r = g.F.Field.ops k.field.now in
    let field = g.met.F.Field.laws k.field.now in
    let law = stored_algebra r field.ring field.mul_comm k.modulus.now k.monic in
    subst (IsElem (stored_ops r k.modulus.now)) (sym (returns-clause-value g c))
    (law.coordinates.of_coords_in _ (elem_read r c.args.list.now field.ring.closed.zero_in c.requires.elems))
