use Rattle.std.proofs.Common.{◌≡◌, ◌+◌, length, ap, ◌∙◌, arith}
use Rattle.ring_core.specs.Coeffs.{trim}
use Rattle.ring_core.proofs.Coefficients.{elems_more, trim_push}
use Rattle.std.proofs.lemmas.List.{length_push}
use Rattle.ore_divide.proofs.euclid.grown.Goals as goal

pub loop-i-preserved : goal.loop-i-preserved
loop-i-preserved g c =
    let k = c.args.field.now in
    let r = g.K.Field.ops k in
    let ring = (g.met.K.Field.laws k).ring in
    let held = c.loop-i.invariant in
    let pushed = c.in_ok-push.ensures.items in
    let zero = c.zero.ensures.value in
    record {
      elems = elems_more r c.loop-i.grown.items _ c.zero.result pushed held.elems c.zero.ensures.elem;
      value = ap (trim r) pushed ∙ trim_push r c.loop-i.grown.items c.zero.result (ap (λ x. r.same x r.zero) zero ∙ ring.equal.same_refl r.zero ring.closed.zero_in) ∙ held.value;
      count = let long : length c.push.new.self.items ≡ length c.loop-i.grown.items + 1 = ap length pushed ∙ length_push c.loop-i.grown.items c.zero.result in omega arith;
    }
