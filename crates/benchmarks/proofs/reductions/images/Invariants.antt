use Rattle.std.proofs.Common.{◌≡◌, true}
use Rattle.flat_modules.specs.Flat.{are_flat}
use Rattle.benchmarks.proofs.reductions.images.Given as goal

abbrev pub invariant-loop-i : goal.invariant-loop-i
invariant-loop-i g l = are_flat (g.F.Field.ops l.f) l.rows.items ≡ true
