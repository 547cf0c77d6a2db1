use Rattle.std.proofs.Common.{◌≡◌, ◌-◌, ◌<◌, ℕ, slice_index}
use Rattle.field_tower.proofs.logs.are_logs.Given as goal

abbrev pub invariant-loop-a : goal.invariant-loop-a
invariant-loop-a l =
    (a : ℕ) → 0 < a → a < l.a → (slice_index l.logs a < l.q - 1) × (slice_index l.powers (slice_index l.logs a) ≡ a)
