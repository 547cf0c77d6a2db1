use Rattle.std.proofs.Common.{◌≡◌, ℕ, ◌+◌, ◌-◌, ◌^◌, ◌<◌, slice_index}
use Rattle.std.specs.Int.{bit_at}
use Rattle.field_tower.proofs.bits.packed.Given as goal

abbrev pub invariant-loop-i : goal.invariant-loop-i
invariant-loop-i l =
    record {
      bits : (j : ℕ) → l.i + j < l.n → bit_at l.c j ≡ slice_index l.list (l.i + j);
      below : l.c < 2 ^ (l.n - l.i);
    }
