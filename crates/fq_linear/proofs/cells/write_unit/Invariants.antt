use Rattle.std.proofs.Common.{◌≡◌, true, length}
use Rattle.ring_core.specs.Coeffs.{are_elems}
use Rattle.ring_core.specs.Written.{IsWritten}
use Rattle.fq_linear.specs.steps.Places.{unit_row}
use Rattle.fq_linear.proofs.cells.write_unit.Given as goal

abbrev pub invariant-loop-k : goal.invariant-loop-k
invariant-loop-k g l =
    let r = g.F.Field.ops l.f in
    record {
      len : length l.row ≡ length l.fn.row;
      elems : are_elems r l.row ≡ true;
      written : IsWritten r.zero 0 l.k (unit_row r l.i) l.fn.row l.row;
    }
