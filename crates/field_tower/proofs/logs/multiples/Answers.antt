use Rattle.std.proofs.Common.{◌≡◌, ℕ, ap, ◌∙◌, arith}
use Rattle.ring_core.specs.Coeffs.{first_values}
use Rattle.ring_core.proofs.Coefficients.{values_more}
use Rattle.residue_field.specs.Prime.{prime_ops}
use Rattle.field_tower.specs.steps.Codes.{code_ops}
use Rattle.field_tower.proofs.FilledTables.{filled_row}
use Rattle.field_tower.proofs.logs.multiples.Goals as goal

pub loop-a-preserved : goal.loop-a-preserved
loop-a-preserved c =
    values_more (prime_ops 2) c.loop-a.a (λ a. (code_ops c.args.codes.now).mul a c.args.g) _ _ _ c.in_ok-push.ensures.items c.loop-a.invariant c.multiple-product.ensures

pub returns : goal.returns
returns c =
    let op = λ (a : ℕ). (code_ops c.args.codes.now).mul a c.args.g in
    let last : c.loop-a.a ≡ c.args.codes.now.q = omega arith in
    filled_row c.args.codes.now.q op c.loop-a.row.items (c.loop-a.invariant ∙ ap (λ n. first_values n op) last)
