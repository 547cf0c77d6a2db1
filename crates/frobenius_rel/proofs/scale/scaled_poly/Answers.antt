use Rattle.std.proofs.Common.{◌∙◌, ap, length}
use Rattle.std.proofs.lemmas.Bool.{and_parts}
use Rattle.ring_core.specs.Coeffs.{coeff, trim, list_of}
use Rattle.ring_core.proofs.Twist.{no_twist}
use Rattle.ring_core.proofs.Monomial.{constant_mul}
use Rattle.frobenius_rel.proofs.scale.scaled_poly.Goals as goal

pub returns : goal.returns
returns g c =
    let r = g.F.Field.ops c.args.field.now in
    let factor = c.args.factor in
    c.from_vec.ensures ∙ c.trimmed.ensures.value ∙ ap (trim r) c.in_ok-values.ensures.value
    ∙ ap (λ v. list_of r (length v) (λ i. r.mul factor (coeff r v i))) c.as_slice.ensures
    ∙ constant_mul r (g.met.F.Field.laws c.args.field.now).ring (λ c i. c) (no_twist r) factor c.args.poly.now c.requires.factor (and_parts _ _ c.requires.elem).0
