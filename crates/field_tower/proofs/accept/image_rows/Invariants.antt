use Rattle.std.proofs.Common.{◌≡◌}
use Rattle.ring_core.specs.Coeffs.{first_values}
use Rattle.field_tower.specs.steps.Kernel.{image_row}
use Rattle.field_tower.proofs.accept.image_rows.Given as goal

abbrev pub invariant-loop-j : goal.invariant-loop-j
invariant-loop-j g l =
    let r = g.A.Constants.Field.ops (g.A.Algebra.constants_of l.algebra) in
    let coords = g.A.Algebra.coords_of l.algebra in
    record {
      width : l.rows.width ≡ coords.dimension;
      rows : l.rows.rows ≡ first_values l.j (image_row r (g.A.Algebra.ops l.algebra) coords l.q l.map);
    }
