use Rattle.std.proofs.Common.{◌≡◌, ℕ, ◌<◌, ◌≤◌, true}
use Rattle.ring_core.specs.Coeffs.{coeff, are_elems}
use Rattle.field_tower.proofs.residues.clear.Given as goal

abbrev pub invariant-loop-i : goal.invariant-loop-i
invariant-loop-i g l =
    let r = g.F.Field.ops l.field in
    record {
      elems : are_elems r l.out ≡ true;
      cleared : (j : ℕ) → j < l.i → coeff r l.out j ≡ r.zero;
      kept : (j : ℕ) → l.i ≤ j → coeff r l.out j ≡ coeff r l.initial.out j;
    }
