use Rattle.std.proofs.Common.{◌≡◌, ◌+◌, ◌-◌, ◌^◌, ◌<◌, slice_index}
use Rattle.residue_field.specs.Digits.{number}
use Rattle.field_tower.proofs.codes.number.Given as goal

abbrev pub invariant-loop-i : goal.invariant-loop-i
invariant-loop-i l =
    record {
      value : l.c ≡ number l.p (l.n - l.i) (λ j. slice_index l.a.0 (l.i + j));
      below : l.c < l.p ^ (l.n - l.i);
    }
