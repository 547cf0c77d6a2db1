use Rattle.std.proofs.Common.{◌≡◌, suc, ◌+◌, ◌*◌, sym, ap, ap₂, ◌∙◌, arith}
use Rattle.drinfeld_mod.specs.steps.FrobProduct.{frob_product}
use Rattle.drinfeld_mod.proofs.invariant.frobenius_product.Goals as goal

pub loop-i-init : goal.loop-i-init
loop-i-init g c =
    let k = c.args.field.now in
    record {
      elem = c.one-product.ensures.elem;
      value = c.one-product.ensures.value;
      image_in = c.requires;
      image = sym (ap ((g.K.FrobField.frob_ops k).frob c.args.c) (omega arith) ∙ (g.met.K.FrobField.frob_laws k).frob_zero c.args.c c.requires);
    }

pub loop-i-preserved : goal.loop-i-preserved
loop-i-preserved g c =
    let k = c.args.field.now in
    let r = g.K.Field.ops k in
    let f = g.K.FrobField.frob_ops k in
    let step = c.args.step in
    let i = c.loop-i._i in
    let before = c.loop-i.invariant in
    let next : suc i ≡ i + 1 = omega arith in
    let more : step * i + step ≡ step * (i + 1) = omega arith in
    record {
      elem = c.mul-product.ensures.elem;
      value = c.mul-product.ensures.value ∙ ap₂ r.mul before.value before.image ∙ ap (frob_product r f.frob c.args.c step) next;
      image_in = c.frob-image.ensures.elem;
      image =
          c.frob-image.ensures.value ∙ ap (λ y. f.frob y step) before.image
          ∙ sym ((g.met.K.FrobField.frob_laws k).frob_plus c.args.c (step * i) step c.requires) ∙ ap (f.frob c.args.c) more;
    }
