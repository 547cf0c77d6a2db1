use Rattle.std.proofs.Common.{◌≡◌, ℕ, ◌*◌, ◌<◌, length, slice_index_or}
use Rattle.residue_field.specs.Base.{ops_of, size_of}
use Rattle.field_tower.proofs.shuffles.multiples.Given as goal

abbrev pub invariant-loop-k : goal.invariant-loop-k
invariant-loop-k l =
    (length l.list ≡ 16)
    × ((m : ℕ) → m < l.k → m * l.step < size_of l.field → slice_index_or l.list m 0 ≡ (ops_of l.field).mul l.c (m * l.step))
