use Rattle.std.proofs.Common.{◌≡◌}
use Rattle.ring_core.specs.Coeffs.{first_values}
use Rattle.field_tower.specs.steps.Codes.{code_ops}
use Rattle.field_tower.proofs.logs.multiples.Given as goal

abbrev pub invariant-loop-a : goal.invariant-loop-a
invariant-loop-a l = l.row.items ≡ first_values l.a (λ b. (code_ops l.codes).mul b l.g)
