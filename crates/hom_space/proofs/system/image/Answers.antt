use Rattle.std.proofs.Common.{ℕ, ap, ap₂, sym, ◌∙◌}
use Rattle.std.proofs.lemmas.List.{append-nil}
use Rattle.ring_core.specs.Coeffs.{coeff, first_values}
use Rattle.ring_core.proofs.Coefficients.{elems_more}
use Rattle.central_coords.proofs.Rows.{values_after}
use Rattle.hom_space.proofs.system.image.Goals as goal

pub loop-m-init : goal.loop-m-init
loop-m-init g c = record {
  value = c.in_ok-list.ensures.value ∙ sym (append-nil (first_values c.args.i (λ e. (g.K.Field.ops c.args.k.now).zero)));
  elems = c.in_ok-list.ensures.elems;
}

pub loop-m-preserved : goal.loop-m-preserved
loop-m-preserved g c =
    let r = g.K.Field.ops c.args.k.now in
    let value = λ (e : ℕ). r.add (r.mul c.args.z (coeff r c.args.raised.now e)) (r.neg (coeff r c.args.turned.now e)) in
    record {
      value =
          values_after (first_values c.args.i (λ e. r.zero)) c.loop-m.m value _ _ _ c.in_ok-push.ensures.items c.loop-m.invariant.value
          (c.add.ensures.value
          ∙ ap₂ r.add (c.mul-left.ensures.value ∙ ap (r.mul c.args.z) c.coeff_at-first.ensures.value) (c.neg-right.ensures.value ∙ ap r.neg c.coeff_at-second.ensures.value));
      elems = elems_more r c.loop-m.list.items _ c.add.result c.in_ok-push.ensures.items c.loop-m.invariant.elems c.add.ensures.elem;
    }
