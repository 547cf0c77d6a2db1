use Rattle.std.proofs.Common.{◌≡◌, length, get_or}
use Rattle.ring_core.specs.Written.{IsWritten}
use Rattle.fq_linear.proofs.cells.write_at.Given as goal

abbrev pub invariant-loop-k : goal.invariant-loop-k
invariant-loop-k g l = record {
  len : length l.cells ≡ length l.fn.cells;
  written : (d : _) → IsWritten d l.at l.k (λ k. get_or l.row k d) l.fn.cells l.cells;
}
