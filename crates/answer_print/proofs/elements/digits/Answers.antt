use Rattle.std.proofs.Common.{refl, arith}
use Rattle.std.proofs.Math.Nat.{div-le_self}
use Rattle.answer_print.proofs.Digits.{next_digit, next_rest}
use Rattle.answer_print.proofs.elements.digits.Goals as goal

pub loop-preserved : goal.loop-preserved
loop-preserved c =
    let before = c.loop.invariant in
    let low = before.small in
    let less = div-le_self c.loop.rest c.args.p in
    record {
      small = omega (arith, low, less);
      value = next_digit c.args.p c.args.c c.loop.counter c.loop.rest _ _ _ c.in_ok-push.ensures.items before.value refl before.rest;
      rest = next_rest c.args.p c.args.c c.loop.counter c.loop.rest before.rest;
    }
