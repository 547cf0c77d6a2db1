use Rattle.std.proofs.Common.{◌+◌, bit_xor, slice_index_or}
use Rattle.ring_core.specs.Written.{IsWritten}
use Rattle.field_tower.proofs.row_sums.add_binary.Given as goal

abbrev pub invariant-loop-j : goal.invariant-loop-j
invariant-loop-j l = IsWritten 0 l.i l.j (λ k. bit_xor (slice_index_or l.initial.out (l.i + k) 0) (slice_index_or l.row k 0)) l.initial.out l.out
