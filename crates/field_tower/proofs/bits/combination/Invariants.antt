use Rattle.std.proofs.Common.{◌≡◌, ℕ, ◌<◌, ◌≤◌, slice_index_or}
use Rattle.residue_field.specs.Base.{ops_of}
use Rattle.field_tower.specs.steps.Images.{combined_images}
use Rattle.field_tower.proofs.bits.combination.Given as goal

abbrev pub invariant-loop-j : goal.invariant-loop-j
invariant-loop-j l =
    record {
      lanes : (i : ℕ) → i < 16 → slice_index_or l.sum i 0 ≡ combined_images (ops_of l.base) l.j l.images l.start l.c i;
      bits : (i : ℕ) → i < 16 → slice_index_or l.sum i 0 < 2;
      past : (i : ℕ) → l.n ≤ i → i < 16 → slice_index_or l.sum i 0 ≡ 0;
    }
