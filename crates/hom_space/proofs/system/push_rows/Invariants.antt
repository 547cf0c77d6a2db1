use Rattle.std.proofs.Common.{◌≡◌, ◌*◌, ◌++◌}
use Rattle.ring_core.specs.Coeffs.{coeff, first_values}
use Rattle.linear_algebra.specs.Linear.{row_at}
use Rattle.central_coords.specs.Coordinates.{coordinate_row}
use Rattle.hom_space.specs.steps.System.{image_list}
use Rattle.hom_space.proofs.system.push_rows.Given as goal

abbrev pub invariant-loop-j : goal.invariant-loop-j
invariant-loop-j g l =
    let r = g.K.Field.ops l.k in
    let f = g.K.FrobField.frob_ops l.k in
    record {
      width : l.rows.width ≡ l.fn.rows.width;
      rows : l.rows.rows ≡ l.fn.rows.rows ++ first_values l.j (λ j. coordinate_row r f (l.count * f.degree) (image_list r l.i (coeff r l.elements j) l.raised (row_at l.turned j)));
    }
