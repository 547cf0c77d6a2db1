use Rattle.std.proofs.Common.{◌≡◌, ◌/◌, ◌%◌, length}
use Rattle.ring_core.specs.Coeffs.{coeff, first_values}
use Rattle.linear_algebra.specs.Linear.{row_at}
use Rattle.central_coords.proofs.polys.interleaved.Given as goal

abbrev pub invariant-loop-c : goal.invariant-loop-c
invariant-loop-c g l =
    let r = g.F.Field.ops l.f in
    l.values.items ≡ first_values l.c (λ c. coeff r (row_at l.list (c % length l.list)) (c / length l.list))
