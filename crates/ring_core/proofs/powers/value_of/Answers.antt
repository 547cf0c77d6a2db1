use Rattle.std.proofs.Common.{◌≡◌, ◌+◌, ◌-◌, ◌<◌, length, drop, ap, sym, ◌∙◌, arith}
use Rattle.std.proofs.lemmas.List.{get_or_default}
use Rattle.ring_core.specs.Powers.{value_at}
use Rattle.ring_core.proofs.PowerLaws.{horner_at}
use Rattle.ring_core.proofs.powers.value_of.Goals as goal

pub loop-i-preserved : goal.loop-i-preserved
loop-i-preserved g c =
    let r = g.F.Field.ops c.args.field.now in
    let ring = (g.met.F.Field.laws c.args.field.now).ring in
    let list = c.args.list.now in
    let x = c.args.x in
    let i = c.loop-i.i - 1 in
    let within : i < length list = omega arith in
    let place : c.loop-i.i ≡ i + 1 = omega arith in
    let read = c.coeff_at-coeff.ensures in
    let coeff = c.coeff_at-coeff.result in
    let before = c.loop-i.invariant.value ∙ ap (λ n. value_at r (drop n list) x) place in
    record {
      elem = c.add-sum.ensures.elem;
      value =
          c.add-sum.ensures.value ∙ ap (r.add coeff) (c.mul-shifted.ensures.value ∙ ap (λ y. r.mul y x) before)
          ∙ sym (horner_at r ring list x i coeff c.requires.list c.requires.point within (read.value ∙ get_or_default list i r.zero coeff within));
    }
