use Rattle.std.proofs.Common.{◌≡◌, ℕ, ◌+◌, ◌*◌, ◌<◌, length, slice_index_or}
use Rattle.field_tower.specs.steps.Lanes.{plain_sum, place_of}
use Rattle.field_tower.specs.steps.Images.{image_at}
use Rattle.field_tower.proofs.lanes.combined.Given as goal

abbrev pub invariant-loop-t : goal.invariant-loop-t
invariant-loop-t l = record {
  len : length l.out ≡ 16;
  lanes : (j : ℕ) → j < 16 → slice_index_or l.out j 0 ≡ slice_index_or l.fn.sum j 0 + plain_sum l.t (λ u. place_of (image_at l.rows (l.start + u)) j * place_of l.c u);
}
