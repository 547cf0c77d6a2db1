use Rattle.std.proofs.Common.{◌≡◌, ◌+◌, suc, length, ap, sym, ◌∙◌, arith}
use Rattle.ring_core.specs.Coeffs.{first_values}
use Rattle.ring_core.specs.Powers.{power_of}
use Rattle.ring_core.proofs.Coefficients.{values_more}
use Rattle.ring_core.proofs.FirstValues.{length-first_values}
use Rattle.operand_value.proofs.powers.powers.Goals as goal

pub loop-i-preserved : goal.loop-i-preserved
loop-i-preserved g c =
    let r = g.F.Field.ops c.args.field.now in
    let x = c.args.x in
    let held = c.loop-i.invariant in
    let up : suc c.loop-i.i ≡ c.loop-i.i + 1 = omega arith in
    record {
      elem = c.mul-next.ensures.elem;
      next = c.mul-next.ensures.value ∙ ap (λ y. r.mul y x) held.next ∙ ap (power_of r x) up;
      value = values_more r c.loop-i.i (power_of r x) _ _ _ c.in_ok-push.ensures.items held.value held.next;
    }

pub returns : goal.returns
returns g c =
    let r = g.F.Field.ops c.args.field.now in
    let powers = power_of r c.args.x in
    let made = c.loop-i.invariant.value in
    made ∙ ap (λ n. first_values n powers) (sym (ap length made ∙ length-first_values c.loop-i.i powers))
