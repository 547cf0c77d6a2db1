use Rattle.std.proofs.Common.{ℕ, ap₂, ◌∙◌}
use Rattle.ring_core.specs.Coeffs.{coeff}
use Rattle.residue_field.specs.Prime.{prime_ops}
use Rattle.residue_field.specs.Digits.{digit}
use Rattle.residue_field.specs.Base.{base_ops}
use Rattle.field_tower.specs.steps.Places.{stored, stored_ops}
use Rattle.field_tower.proofs.CodeDigits.{code_made}
use Rattle.field_tower.proofs.CodeForms.{add-bits}
use Rattle.field_tower.proofs.codes.Codes.sum.Goals as goal

pub returns : goal.returns
unfolding base_ops stored_ops stored
returns c =
    let k = c.args.self.now in
    let r = prime_ops k.prime.p in
    c.code.ensures
    ∙ code_made k c.add.result (λ (i : ℕ). r.add (coeff r c.residue-left.result.0 i) (coeff r c.residue-right.result.0 i))
    (λ i. r.add (digit k.prime.p c.args.a i) (digit k.prime.p c.args.b i)) c.add.ensures.value
    (λ i. ap₂ r.add (c.residue-left.ensures.digits i) (c.residue-right.ensures.digits i))

pub returns-then-self-eq2 : goal.returns-then-self-eq2
returns-then-self-eq2 c = add-bits c.args.self.now c.if-self-eq2.true c.args.a c.args.b c.requires.left c.requires.right
