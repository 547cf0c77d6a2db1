use Rattle.std.proofs.Common.{◌≡◌, ◌+◌, ◌-◌, ◌<◌, length, drop, ap, sym, ◌∙◌, arith}
use Rattle.std.proofs.lemmas.List.{get_or_read}
use Rattle.ring_core.specs.Powers.{value_at}
use Rattle.ring_core.proofs.Coefficients.{elem_read}
use Rattle.ring_core.proofs.PowerLaws.{horner_at}
use Rattle.ring_core.proofs.powers.eval.Goals as goal

pub add-requires-clause-left : goal.add-requires-clause-left
add-requires-clause-left g c =
    let r = g.R.Ring.ops c.args.r.now in
    let coeffs = c.args.coeffs.now in
    let i = c.loop-i.i - 1 in
    let within : i < length coeffs = omega arith in
    ap r.is_elem (get_or_read coeffs i _ within c.index-coeffs-i.is r.zero)
    ∙ elem_read r coeffs (g.met.R.Ring.laws c.args.r.now).closed.zero_in c.requires.coeffs i

pub loop-i-preserved : goal.loop-i-preserved
loop-i-preserved g c =
    let r = g.R.Ring.ops c.args.r.now in
    let coeffs = c.args.coeffs.now in
    let a = c.args.a.now in
    let i = c.loop-i.i - 1 in
    let within : i < length coeffs = omega arith in
    let place : c.loop-i.i ≡ i + 1 = omega arith in
    let before = c.loop-i.invariant.value ∙ ap (λ n. value_at r (drop n coeffs) a) place in
    record {
      elem = c.in_ok-sum-2.ensures.elem;
      value =
          c.in_ok-sum-2.ensures.value
          ∙ ap (r.add c.index-coeffs-i.result) (c.in_ok-shifted.ensures.value ∙ ap (λ x. r.mul x a) before)
          ∙ sym (horner_at r (g.met.R.Ring.laws c.args.r.now) coeffs a i _ c.requires.coeffs c.requires.point within c.index-coeffs-i.is);
    }
