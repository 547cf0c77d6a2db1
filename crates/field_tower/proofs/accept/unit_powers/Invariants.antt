use Rattle.std.proofs.Common.{◌≡◌}
use Rattle.ring_core.specs.Coeffs.{first_values}
use Rattle.field_tower.specs.UnitPowers.{unit_power}
use Rattle.field_tower.proofs.accept.unit_powers.Given as goal

abbrev pub invariant-loop-j : goal.invariant-loop-j
invariant-loop-j g l =
    let r = g.A.Constants.Field.ops (g.A.Algebra.constants_of l.algebra) in
    l.images.items ≡ first_values l.j (unit_power r (g.A.Algebra.ops l.algebra) (g.A.Algebra.coords_of l.algebra) l.q)
