use Rattle.std.proofs.Common.{◌≡◌, true}
use Rattle.flat_modules.specs.Flat.{are_flat}
use Rattle.benchmarks.proofs.reductions.push_images.Given as goal

abbrev pub invariant-loop-j : goal.invariant-loop-j
invariant-loop-j g l = are_flat (g.F.Field.ops l.f) l.rows.items ≡ true
