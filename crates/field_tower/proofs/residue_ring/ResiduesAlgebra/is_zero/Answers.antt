use Rattle.std.proofs.Common.{◌-◌, length}
use Rattle.field_tower.specs.steps.Places.{stored, stored_ops}
use Rattle.field_tower.proofs.StoredValues.{residue_elems}
use Rattle.field_tower.proofs.residue_ring.ResiduesAlgebra.is_zero.Goals as goal

pub is_zero-requires : goal.is_zero-requires
is_zero-requires g c =
    let k = c.args.self.now in
    let field = g.met.F.Field.laws k.field.now in
    residue_elems (g.F.Field.ops k.field.now) field.ring field.mul_comm k.modulus.now k.monic c.args.a c.requires

pub returns : goal.returns
unfolding stored stored_ops
returns g c = c.is_zero.ensures (length c.args.self.now.modulus.now - 2)
