use Rattle.std.proofs.Common.{length, ap, ◌∙◌, arith}
use Rattle.std.proofs.lemmas.List.{length_push}
use Rattle.ring_core.specs.Coeffs.{coeff, trim}
use Rattle.ring_core.proofs.Coefficients.{elems_more, coeff_push_zero, trim_push}
use Rattle.ring_core.proofs.rows.extend.Goals as goal

pub loop-i-preserved : goal.loop-i-preserved
loop-i-preserved g c =
    let r = g.K.Field.ops c.args.field.now in
    let ring = (g.met.K.Field.laws c.args.field.now).ring in
    let list = c.loop-i.list.items in
    let held = c.loop-i.invariant in
    let pushed = c.in_ok-push.ensures.items in
    let zero = c.zero-zero.ensures.value in
    let longer = ap length pushed ∙ length_push list c.zero-zero.result in
    record {
      elems = elems_more r list _ _ pushed held.elems c.zero-zero.ensures.elem;
      room = omega (arith, longer, held.room);
      coeffs = λ k. ap (λ u. coeff r u k) pushed ∙ coeff_push_zero r list _ zero k ∙ held.coeffs k;
      trimmed = ap (trim r) pushed ∙ trim_push r list _ (ap (λ x. r.same x r.zero) zero ∙ ring.equal.same_refl r.zero ring.closed.zero_in) ∙ held.trimmed;
    }
