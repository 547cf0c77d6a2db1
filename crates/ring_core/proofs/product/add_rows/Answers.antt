use Rattle.std.proofs.Common.{◌≡◌, length, subst, arith}
use Rattle.ring_core.proofs.RowSteps.{HasRows, rows_none, rows_more, rows_all}
use Rattle.ring_core.proofs.product.add_rows.Goals as goal

pub loop-i-init : goal.loop-i-init
loop-i-init g c =
    let k = c.args.ring.now in
    let over = g.T.TwistedRing.over k in
    record {
      out_elems = c.requires.elems;
      row_elems = c.requires.right;
      rows =
          rows_none (g.T.Over.Field.ops over) (g.met.T.Over.Field.laws over).ring (g.T.TwistedRing.twist k) (g.met.T.TwistedRing.twist_laws k)
          c.args.a.now c.args.row.now c.args.out.now c.requires.right c.requires.zeros;
    }

pub loop-i-preserved : goal.loop-i-preserved
loop-i-preserved g c =
    let k = c.args.ring.now in
    let over = g.T.TwistedRing.over k in
    let read = rw c.field-field.ensures at c.coeff_at-factor.ensures.value in
    let added = rw c.field-field.ensures at c.add_scaled.ensures in
    let same : length c.add_scaled.new.out ≡ length c.loop-i.out = omega arith in
    record {
      out_elems = added.elems;
      row_elems = c.raise.ensures.elems;
      rows =
          rows_more (g.T.Over.Field.ops over) (g.met.T.Over.Field.laws over).ring (g.T.TwistedRing.twist k) (g.met.T.TwistedRing.twist_laws k)
          c.args.a.now c.args.row.now c.loop-i.out c.loop-i.row c.add_scaled.new.out c.raise.new.row c.loop-i.i c.coeff_at-factor.result c.requires.right c.loop-i.invariant.rows read same added.below added.added c.raise.ensures.raised;
    }

pub returns-clause-product : goal.returns-clause-product
returns-clause-product g c =
    let k = c.args.ring.now in
    let over = g.T.TwistedRing.over k in
    let r = g.T.Over.Field.ops over in
    let frob = g.T.TwistedRing.twist k in
    let a = c.args.a.now in
    let b = c.args.row.now in
    let out = c.loop-i.out in
    let all : c.loop-i.i ≡ length a = omega arith in
    let same : length out ≡ length c.args.out.now = omega arith in
    λ n l.
    rows_all r (g.met.T.Over.Field.laws over).ring frob (g.met.T.TwistedRing.twist_laws k) a b out c.loop-i.row c.requires.left c.requires.right
    (subst (λ i. HasRows r frob a b out c.loop-i.row i) all c.loop-i.invariant.rows) n (omega arith)
