use Rattle.std.proofs.Common.{◌≡◌, length, refl, subst, arith}
use Rattle.ring_core.proofs.Twist.{no_twist}
use Rattle.ring_core.proofs.RowSteps.{HasRows, rows_none, rows_more, rows_all}
use Rattle.field_tower.proofs.row_products.plain_product.Goals as goal

pub loop-i-init : goal.loop-i-init
loop-i-init g c =
    let r = g.F.Field.ops c.args.field.now in
    record {
      width = omega arith;
      elems = c.no_sums-sums.ensures.elems;
      rows =
          rows_none r (g.met.F.Field.laws c.args.field.now).ring (λ c i. c) (no_twist r) c.args.a.now c.args.b.now c.no_sums-sums.result c.requires.right c.no_sums-sums.ensures.values;
    }

pub loop-i-preserved : goal.loop-i-preserved
loop-i-preserved g c =
    let r = g.F.Field.ops c.args.field.now in
    let same : length c.add_row.new.out ≡ length c.loop-i.sums = omega arith in
    record {
      width = omega (arith, c.loop-i.invariant.width);
      elems = c.add_row.ensures.elems;
      rows =
          rows_more r (g.met.F.Field.laws c.args.field.now).ring (λ c i. c) (no_twist r) c.args.a.now c.args.b.now
          c.loop-i.sums c.args.b.now c.add_row.new.out c.args.b.now c.loop-i.i c.coeff_at.result c.requires.right c.loop-i.invariant.rows
          c.coeff_at.ensures.value same c.add_row.ensures.below c.add_row.ensures.added (λ k. refl);
    }

pub returns-clause-values : goal.returns-clause-values
returns-clause-values g c =
    let r = g.F.Field.ops c.args.field.now in
    let a = c.args.a.now in
    let b = c.args.b.now in
    let sums = c.loop-i.sums in
    let width = c.loop-i.invariant.width in
    let all : c.loop-i.i ≡ length a = omega arith in
    λ k l.
    rows_all r (g.met.F.Field.laws c.args.field.now).ring (λ c i. c) (no_twist r) a b sums b c.requires.left c.requires.right
    (subst (λ i. HasRows r (λ c i. c) a b sums b i) all c.loop-i.invariant.rows) k (omega arith)
