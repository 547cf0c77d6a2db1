use Rattle.std.proofs.Common.{◌≡◌, ◌+◌, ◌-◌, ◌<◌, length, sym, ap, ap₂, ◌∙◌, arith}
use Rattle.std.proofs.lemmas.List.{drop_all}
use Rattle.ring_core.specs.Coeffs.{is_canonical}
use Rattle.ring_core.specs.Twisted.{list_add}
use Rattle.ring_core.specs.Monomial.{constant}
use Rattle.drinfeld_mod.specs.Image.{image}
use Rattle.drinfeld_mod.proofs.Actions.{image_step}
use Rattle.drinfeld_mod.proofs.image.image_at.Goals as goal

pub loop-i-init : goal.loop-i-init
loop-i-init g c =
    let k = c.args.field.now in
    let r = g.K.Field.ops k in
    let a = c.args.a.now in
    let all = drop_all (length a) a (omega arith) in
    record {
      elem = ap (is_canonical r) c.in_ok-sum.ensures.value;
      value =
          c.in_ok-sum.ensures.value
          ∙ sym (ap (image r (g.K.Base.Field.ops (g.K.FrobField.base_of k)) (g.K.FrobField.frob_ops k) c.args.x.now) all);
    }

pub loop-i-preserved : goal.loop-i-preserved
loop-i-preserved g c =
    let k = c.args.field.now in
    let r = g.K.Field.ops k in
    let f = g.K.FrobField.frob_ops k in
    let i = c.loop-i.i in
    let within : i - 1 < length c.args.a.now = omega arith in
    let next : i - 1 + 1 ≡ i = omega arith in
    let step =
    image_step r _ _ _ f (g.met.K.Field.laws k) (g.met.K.Base.Field.laws (g.K.FrobField.base_of k)) (g.met.K.FrobField.frob_laws k) c.args.x.now c.requires.point c.args.a.now
    (i - 1) c.requires.poly within in
    record {
      elem = rw c.new-ring.ensures at c.in_ok-sum-2.ensures.elem;
      value =
          (rw c.new-ring.ensures at c.in_ok-sum-2.ensures.value)
          ∙ ap₂ (list_add r) (c.in_ok-constant.ensures.value ∙ ap (λ b. constant r (f.embed b)) (rw c.base.ensures at c.coeff_at-member.ensures.value))
          (rw (c.new-ring.ensures, c.loop-i.invariant.value) at c.in_ok-shifted.ensures.value)
          ∙ sym (rw next at step);
    }
