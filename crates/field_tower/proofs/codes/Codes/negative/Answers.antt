use Rattle.std.proofs.Common.{ℕ, ap, ◌∙◌}
use Rattle.ring_core.specs.Coeffs.{coeff}
use Rattle.residue_field.specs.Prime.{prime_ops}
use Rattle.residue_field.specs.Digits.{digit}
use Rattle.residue_field.specs.Base.{base_ops}
use Rattle.field_tower.specs.steps.Places.{stored, stored_ops}
use Rattle.field_tower.proofs.CodeDigits.{code_made}
use Rattle.field_tower.proofs.codes.Codes.negative.Goals as goal

pub returns : goal.returns
unfolding base_ops stored_ops stored
returns c =
    let k = c.args.self.now in
    let r = prime_ops k.prime.p in
    c.code.ensures
    ∙ code_made k c.neg.result (λ (i : ℕ). r.neg (coeff r c.residue-residue.result.0 i)) (λ i. r.neg (digit k.prime.p c.args.a i)) c.neg.ensures.value
    (λ i. ap r.neg (c.residue-residue.ensures.digits i))
