use Rattle.std.proofs.Common.{◌≡◌, ◌+◌, suc, length, sym, ap, ◌∙◌, arith}
use Rattle.ring_core.specs.Coeffs.{first_values}
use Rattle.ring_core.specs.Powers.{power_of}
use Rattle.ring_core.proofs.Coefficients.{values_more}
use Rattle.ring_core.proofs.FirstValues.{length-first_values}
use Rattle.fq_poly.specs.Poly.{poly_ops}
use Rattle.minimal_poly.specs.steps.PowerRows.{power_row}
use Rattle.minimal_poly.proofs.relation.power_rows.Goals as goal

pub loop-i-init : goal.loop-i-init
loop-i-init g c =
    let r = g.K.Field.ops c.args.k.now in
    record {
      width = c.new-rows.ensures.width ∙ c.degree-n.ensures;
      rows = c.new-rows.ensures.rows;
      elem = c.one-power.ensures.elem;
      power = c.one-power.ensures.value;
    }

pub push-requires : goal.push-requires
push-requires g c =
    let k = c.args.k.now in
    let f = g.K.FrobField.frob_ops k in
    ap length (c.deref.ensures.value ∙ c.in_ok-row.ensures)
    ∙ length-first_values f.degree (f.coord c.loop-i.power)
    ∙ sym c.loop-i.invariant.width

pub loop-i-preserved : goal.loop-i-preserved
loop-i-preserved g c =
    let k = c.args.k.now in
    let r = g.K.Field.ops k in
    let f = g.K.FrobField.frob_ops k in
    let base = g.K.Base.Field.ops (g.K.FrobField.base_of k) in
    let i = c.loop-i._i in
    let before = c.loop-i.invariant in
    let next : suc i ≡ i + 1 = omega arith in
    record {
      width = c.push.ensures.width ∙ before.width;
      rows =
          values_more (poly_ops base) i (power_row r f c.args.c) c.loop-i.rows.rows c.push.new.self.rows c.deref.result.now
          c.in_ok-push.ensures.rows before.rows
          (c.deref.ensures.value ∙ c.in_ok-row.ensures ∙ ap (λ y. first_values f.degree (f.coord y)) before.power);
      elem = c.mul-power.ensures.elem;
      power = c.mul-power.ensures.value ∙ ap (λ y. r.mul y c.args.c) before.power ∙ ap (power_of r c.args.c) next;
    }

pub returns-clause-rows : goal.returns-clause-rows
returns-clause-rows g c =
    let k = c.args.k.now in
    let f = g.K.FrobField.frob_ops k in
    let last : c.loop-i._i ≡ f.degree + 1 = omega (arith, c.degree-n.ensures) in
    c.loop-i.invariant.rows ∙ ap (λ n. first_values n (power_row (g.K.Field.ops k) f c.args.c)) last
