use Rattle.std.proofs.Common.{◌-◌, length, ap, ◌∙◌}
use Rattle.residue_field.specs.Residue.{constant_at}
use Rattle.field_tower.specs.steps.Places.{stored, stored_ops}
use Rattle.field_tower.proofs.Stored.{one_in}
use Rattle.field_tower.proofs.places.one.Goals as goal

pub returns-clause-value : goal.returns-clause-value
unfolding stored_ops stored
returns-clause-value g c = λ modulus.
    let r = g.F.Field.ops c.args.field.now in
    c.constant.ensures (length modulus - 2) ∙ ap (λ x. stored r (length modulus - 2) (constant_at r x)) c.one.ensures.value

pub returns-clause-elem : goal.returns-clause-elem
returns-clause-elem g c = λ modulus monic.
    let field = g.met.F.Field.laws c.args.field.now in
    one_in (g.F.Field.ops c.args.field.now) field.ring modulus monic field.mul_comm (returns-clause-value g c modulus)
