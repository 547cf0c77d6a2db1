use Rattle.std.proofs.Common.{◌≡◌, ◌+◌, ◌*◌, true, length}
use Rattle.ring_core.specs.Coeffs.{coeff, are_elems}
use Rattle.fq_linear.specs.Table.{row_cells}
use Rattle.fq_linear.specs.steps.Extents.{HaveExtents}
use Rattle.fq_linear.specs.steps.Elimination.{IsEliminated, IsBelow, augmented}
use Rattle.fq_linear.proofs.eliminate.insert_all.Given as goal

abbrev pub invariant-loop-i : goal.invariant-loop-i
invariant-loop-i g l =
    let r = g.F.Field.ops l.f in
    record {
      row : are_elems r l.row ≡ true;
      row_len : length l.row ≡ l.offset + l.width;
      cells_len : length l.cells ≡ l.n * (l.offset + l.width);
      extents : HaveExtents r (l.offset + l.width) l.index l.cells l.extents;
      below : IsBelow l.i l.index;
      eliminated : IsEliminated r (l.offset + l.width) l.i (augmented r l.offset (λ i. coeff r (row_cells l.width l.source i))) l.index l.cells;
    }
