use Rattle.std.proofs.Common.{◌≡◌, ℕ, ◌+◌, ◌<◌, ◌≤◌, length, slice_index}
use Rattle.residue_field.specs.declared.TheConstants.{WIDTH}
use Rattle.residue_field.specs.Digits.{digit}
use Rattle.field_tower.proofs.codes.digits.Given as goal

abbrev pub invariant-loop-i : goal.invariant-loop-i
invariant-loop-i l =
    record {
      width : length l.places ≡ WIDTH;
      done : (j : ℕ) → j < l.i → slice_index l.places j ≡ digit l.p l.fn.c j;
      past : (j : ℕ) → l.i ≤ j → slice_index l.places j ≡ 0;
      rest : (j : ℕ) → digit l.p l.rest j ≡ digit l.p l.fn.c (l.i + j);
    }
