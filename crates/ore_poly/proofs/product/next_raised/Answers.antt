use Rattle.std.proofs.Common.{ap, ◌∙◌, arith}
use Rattle.ring_core.proofs.Twist.{frob_twist}
use Rattle.ore_poly.proofs.RaisedRows.{first_next, later_next}
use Rattle.ore_poly.proofs.product.next_raised.Goals as goal

pub returns-then-t-b-clause-value : goal.returns-then-t-b-clause-value
returns-then-t-b-clause-value g c =
    let k = c.args.field.now in
    let r = g.K.Field.ops k in
    let f = g.K.FrobField.frob_ops k in
    let field = g.met.K.Field.laws k in
    let twist = frob_twist r (g.K.Field.inv_of k) _ f field (g.met.K.FrobField.frob_laws k) in
    λ i j l here.
    c.coeff_at.ensures.value
    ∙ first_next r field.ring f.frob twist c.args.b.now c.requires.row c.args.rows.now (omega arith) i j l here

pub returns-else-t-b-clause-value : goal.returns-else-t-b-clause-value
returns-else-t-b-clause-value g c =
    let k = c.args.field.now in
    let r = g.K.Field.ops k in
    let f = g.K.FrobField.frob_ops k in
    let field = g.met.K.Field.laws k in
    let twist = frob_twist r (g.K.Field.inv_of k) _ f field (g.met.K.FrobField.frob_laws k) in
    λ i j l here.
    c.frob.ensures.value ∙ ap (λ x. f.frob x 1) c.coeff_at-before.ensures.value
    ∙ later_next r field.ring f.frob twist c.args.b.now c.requires.row c.args.rows.now c.requires.raised (omega arith) i j l here
