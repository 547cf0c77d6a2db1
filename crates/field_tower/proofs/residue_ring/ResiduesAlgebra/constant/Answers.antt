use Rattle.std.proofs.Common.{◌-◌, length, sym, subst}
use Rattle.ring_core.specs.Ring.{IsElem}
use Rattle.field_tower.specs.steps.Places.{stored_ops}
use Rattle.field_tower.proofs.Stored.{constant_made}
use Rattle.field_tower.proofs.StoredValues.{constant_in}
use Rattle.field_tower.proofs.residue_ring.ResiduesAlgebra.constant.Goals as goal

pub returns-clause-value : goal.returns-clause-value
returns-clause-value g c =
    let k = c.args.self.now in
    constant_made (g.F.Field.ops k.field.now) k.modulus.now c.constant.result c.args.c (c.constant.ensures (length k.modulus.now - 2))

pub returns-clause-elem : goal.returns-clause-elem
returns-clause-elem g c =
    let k = c.args.self.now in
    let r = g.F.Field.ops k.field.now in
    let field = g.met.F.Field.laws k.field.now in
    subst (IsElem (stored_ops r k.modulus.now)) (sym (returns-clause-value g c))
    (constant_in r field.ring field.mul_comm k.modulus.now k.monic c.args.c c.requires)
