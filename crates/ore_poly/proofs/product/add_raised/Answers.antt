use Rattle.std.proofs.Common.{◌≡◌, ◌<◌, length, subst, arith}
use Rattle.ring_core.specs.Coeffs.{coeff, first_values}
use Rattle.ring_core.proofs.RowSteps.{HasRows, rows_all}
use Rattle.ring_core.proofs.Twist.{frob_twist}
use Rattle.ore_poly.proofs.RaisedRows.{row_room, sums_none, sums_more}
use Rattle.ore_poly.proofs.product.add_raised.Goals as goal

pub loop-i-init : goal.loop-i-init
loop-i-init g c =
    let k = c.args.field.now in
    let r = g.K.Field.ops k in
    let f = g.K.FrobField.frob_ops k in
    let field = g.met.K.Field.laws k in
    let twist = frob_twist r (g.K.Field.inv_of k) _ f field (g.met.K.FrobField.frob_laws k) in
    record {
      elems = c.requires.elems;
      rows = sums_none r field.ring f.frob twist c.args.b.now c.requires.right c.args.a.now c.args.out.now c.requires.zeros;
    }

pub raised_row-row-requires-clause-room : goal.raised_row-row-requires-clause-room
raised_row-row-requires-clause-room g c =
    let k = c.args.field.now in
    let f = g.K.FrobField.frob_ops k in
    let laws = g.met.K.FrobField.frob_laws k in
    let low : c.loop-i.i < length c.args.a.now = omega arith in
    let room = row_room c.loop-i.i f.degree (length c.args.a.now) (length c.args.b.now) laws.degree_pos low in
    omega (arith, room, c.requires.rows_len)

pub loop-i-preserved : goal.loop-i-preserved
loop-i-preserved g c =
    let k = c.args.field.now in
    let r = g.K.Field.ops k in
    let f = g.K.FrobField.frob_ops k in
    let field = g.met.K.Field.laws k in
    let twist = frob_twist r (g.K.Field.inv_of k) _ f field (g.met.K.FrobField.frob_laws k) in
    let added = c.add_scaled.ensures in
    let same : length c.add_scaled.new.out ≡ length c.loop-i.out = omega arith in
    record {
      elems = added.elems;
      rows =
          sums_more r field.ring f.frob twist c.args.b.now c.requires.right c.args.a.now c.loop-i.out c.add_scaled.new.out c.raised_row-row.result.now c.loop-i.i c.coeff_at-factor.result
          c.loop-i.invariant.rows c.coeff_at-factor.ensures.value same added.below added.added c.raised_row-row.ensures.raised;
    }

pub returns-clause-product : goal.returns-clause-product
returns-clause-product g c =
    let k = c.args.field.now in
    let r = g.K.Field.ops k in
    let f = g.K.FrobField.frob_ops k in
    let field = g.met.K.Field.laws k in
    let twist = frob_twist r (g.K.Field.inv_of k) _ f field (g.met.K.FrobField.frob_laws k) in
    let a = c.args.a.now in
    let b = c.args.b.now in
    let out = c.loop-i.out in
    let row = first_values (length b) (λ n. f.frob (coeff r b n) c.loop-i.i) in
    let all : c.loop-i.i ≡ length a = omega arith in
    let same : length out ≡ length c.args.out.now = omega arith in
    λ n l.
    rows_all r field.ring f.frob twist a b out row c.requires.left c.requires.right
    (subst (λ i. HasRows r f.frob a b out row i) all c.loop-i.invariant.rows) n (omega arith)
