use Rattle.std.proofs.Common.{◌+◌, ◌*◌, bit_xor, slice_index_or}
use Rattle.ring_core.specs.Written.{IsWritten}
use Rattle.residue_field.specs.Base.{ops_of}
use Rattle.field_tower.proofs.shuffles.add_blocks.Given as goal

abbrev pub invariant-loop-block : goal.invariant-loop-block
invariant-loop-block l =
    IsWritten 0 l.i (l.block * 16) (λ k. bit_xor (slice_index_or l.initial.out (l.i + k) 0) ((ops_of l.field).mul l.c (slice_index_or l.row k 0))) l.initial.out l.out
