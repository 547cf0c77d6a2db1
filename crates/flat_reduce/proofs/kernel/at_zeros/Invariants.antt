use Rattle.std.proofs.Common.{◌≡◌}
use Rattle.flat_modules.specs.Flat.{zero_rows}
use Rattle.flat_reduce.proofs.kernel.at_zeros.Given as goal

abbrev pub invariant-loop-i : goal.invariant-loop-i
invariant-loop-i g l = l.list.items ≡ zero_rows l.image l.left l.i
