use Rattle.std.proofs.Common.{◌≡◌, true, length}
use Rattle.ring_core.specs.Coeffs.{coeff, are_elems}
use Rattle.ring_core.specs.Written.{IsWritten}
use Rattle.fq_linear.proofs.cells.scale_first.Given as goal

abbrev pub invariant-loop-k : goal.invariant-loop-k
invariant-loop-k g l =
    let r = g.F.Field.ops l.f in
    record {
      len : length l.row ≡ length l.fn.row;
      elems : are_elems r l.row ≡ true;
      written : IsWritten r.zero 0 l.k (λ k. r.mul l.c (coeff r l.fn.row k)) l.fn.row l.row;
    }
