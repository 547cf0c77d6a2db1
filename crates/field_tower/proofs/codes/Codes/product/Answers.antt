use Rattle.std.proofs.Common.{ℕ, ◌+◌, ◌-◌, length, ap, ap₂, ◌∙◌}
use mathlib.Core.Path.{fun_ext}
use Rattle.ring_core.specs.Coeffs.{coeff}
use Rattle.residue_field.specs.Prime.{prime_ops}
use Rattle.residue_field.specs.Digits.{digit}
use Rattle.residue_field.specs.Residue.{residue, product}
use Rattle.residue_field.specs.Base.{base_ops}
use Rattle.field_tower.specs.steps.Places.{stored, stored_ops}
use Rattle.field_tower.proofs.CodeDigits.{code_made}
use Rattle.field_tower.proofs.codes.Codes.product.Goals as goal

pub returns : goal.returns
unfolding base_ops stored_ops stored
returns c =
    let k = c.args.self.now in
    let r = prime_ops k.prime.p in
    let d = length k.modulus.now - 2 in
    let result = λ (u v : ℕ → ℕ). residue r d (coeff r k.modulus.now) (d + 1 + (d + 1)) (product r u v) in
    c.code.ensures
    ∙ code_made k c.mul.result (result (coeff r c.residue-left.result.0) (coeff r c.residue-right.result.0))
    (result (digit k.prime.p c.args.a) (digit k.prime.p c.args.b)) c.mul.ensures.value
    (λ i. ap (λ g. g i) (ap₂ result (fun_ext c.residue-left.ensures.digits) (fun_ext c.residue-right.ensures.digits)))
