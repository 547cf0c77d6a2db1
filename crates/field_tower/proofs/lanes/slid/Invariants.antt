use Rattle.std.proofs.Common.{◌≡◌, ℕ, ◌+◌, ◌-◌, ◌*◌, ◌<◌, length, slice_index_or}
use Rattle.field_tower.specs.steps.Lanes.{plain_sum, place_of}
use Rattle.field_tower.proofs.lanes.slid.Given as goal

abbrev pub invariant-loop-i : goal.invariant-loop-i
invariant-loop-i l = record {
  len : length l.sum ≡ 16;
  lanes : (j : ℕ) → j < 16 → slice_index_or l.sum j 0 ≡ plain_sum l.i (λ u. slice_index_or l.list (l.from - u + j) 0 * place_of l.a u);
}
