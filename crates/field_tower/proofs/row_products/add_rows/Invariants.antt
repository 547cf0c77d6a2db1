use Rattle.std.proofs.Common.{◌+◌}
use Rattle.ring_core.specs.Coeffs.{coeff}
use Rattle.field_tower.specs.steps.Images.{image_at}
use Rattle.field_tower.proofs.AddedRows.{AreAdded}
use Rattle.field_tower.proofs.row_products.add_rows.Given as goal

abbrev pub invariant-loop-i : goal.invariant-loop-i
invariant-loop-i g l =
    let r = g.F.Field.ops l.field in
    AreAdded r l.n l.i (coeff r l.factors) (λ j. coeff r (image_at l.rows (l.start + j)).0) l.initial.out l.out
