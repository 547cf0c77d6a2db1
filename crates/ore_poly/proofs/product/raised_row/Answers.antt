use Rattle.std.proofs.Common.{◌+◌, ◌*◌, ◌%◌, length, ap, ◌∙◌, slice_range}
use Rattle.ring_core.specs.Coeffs.{coeff}
use Rattle.ring_core.proofs.Coefficients.{elem_read, elems_take}
use Rattle.ring_core.proofs.PowerLaws.{elems_drop}
use Rattle.ring_core.proofs.Twist.{frob_twist, frob_mod}
use Rattle.ore_poly.proofs.RaisedRows.{row_found}
use Rattle.ore_poly.proofs.product.raised_row.Goals as goal

pub returns-clause-elems : goal.returns-clause-elems
returns-clause-elems g c =
    let k = c.args.field.now in
    let r = g.K.Field.ops k in
    elems_take r _ _ (elems_drop r (g.met.K.Field.laws k).ring _ c.args.rows.now c.requires.elems)

pub returns-clause-raised : goal.returns-clause-raised
returns-clause-raised g c =
    let k = c.args.field.now in
    let r = g.K.Field.ops k in
    let f = g.K.FrobField.frob_ops k in
    let field = g.met.K.Field.laws k in
    let laws = g.met.K.FrobField.frob_laws k in
    let twist = frob_twist r (g.K.Field.inv_of k) _ f field laws in
    let b = c.args.b.now in
    let degree = c.degree.ensures in
    λ n.
    ap (λ d. coeff r (slice_range c.args.rows.now (c.args.i % d * length b) (c.args.i % d * length b + length b)) n) degree
    ∙ row_found r field.ring f.frob twist b c.requires.row c.args.rows.now (c.args.i % f.degree) n c.requires.raised c.requires.room
    ∙ frob_mod r _ f laws (coeff r b n) c.args.i (elem_read r b field.ring.closed.zero_in c.requires.row n)
