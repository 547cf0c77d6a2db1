use Rattle.std.proofs.Common.{◌≡◌}
use Rattle.ring_core.specs.Coeffs.{coeff, first_values}
use Rattle.linear_algebra.specs.Linear.{row_at}
use Rattle.hom_space.proofs.reading.row_list.Given as goal

abbrev pub invariant-loop-j : goal.invariant-loop-j
invariant-loop-j g l =
    let r = g.F.Field.ops l.f in
    l.list.items ≡ first_values l.j (coeff r (row_at l.rows.rows l.i))
