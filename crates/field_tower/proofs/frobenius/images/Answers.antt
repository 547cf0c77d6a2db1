use Rattle.std.proofs.Common.{◌≡◌, ◌-◌, ◌*◌, ap, ◌∙◌, arith}
use Rattle.ring_core.specs.Coeffs.{first_values}
use Rattle.ring_core.proofs.Coefficients.{values_more}
use Rattle.residue_field.specs.Top.{top_ops}
use Rattle.field_tower.specs.steps.Images.{frob_image}
use Rattle.field_tower.proofs.frobenius.images.Goals as goal

pub loop-m-preserved : goal.loop-m-preserved
loop-m-preserved c =
    let base = c.args.base.now in
    let n = c.args.n in
    let modulus = c.args.modulus.now in
    values_more (top_ops base (n - 1) modulus) c.loop-m.m (frob_image base n modulus) _ _ _ c.in_ok-push.ensures.items c.loop-m.invariant c.next_image-image.ensures

pub returns : goal.returns
returns c =
    let n = c.args.n in
    let last : c.loop-m.m ≡ n * n = omega arith in
    c.loop-m.invariant ∙ ap (λ k. first_values k (frob_image c.args.base.now n c.args.modulus.now)) last
