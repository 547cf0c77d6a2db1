use Rattle.std.proofs.Common.{ℕ, ◌<◌}
use Rattle.field_tower.specs.steps.Kernel.{IsLowRow}
use Rattle.field_tower.proofs.accept.find_above.Given as goal

abbrev pub invariant-loop-i : goal.invariant-loop-i
invariant-loop-i g l =
    let r = g.A.Constants.Field.ops (g.A.Algebra.constants_of l.algebra) in
    (k : ℕ) → k < l.i → IsLowRow r l.low l.rows.rows k
