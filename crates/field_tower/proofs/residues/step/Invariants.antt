use Rattle.std.proofs.Common.{◌≡◌, ℕ, ◌-◌, ◌<◌, ◌≤◌, length, true}
use Rattle.ring_core.specs.Coeffs.{coeff, are_elems}
use Rattle.residue_field.specs.Residue.{times_x}
use Rattle.field_tower.proofs.residues.step.Given as goal

abbrev pub invariant-loop-i : goal.invariant-loop-i
invariant-loop-i g l =
    let r = g.F.Field.ops l.field in
    let old = coeff r l.initial.out in
    record {
      elems : are_elems r l.out ≡ true;
      done : (j : ℕ) → l.i ≤ j → j < l.n → coeff r l.out j ≡ r.add (r.mul l.c (coeff r l.b j)) (times_x r (length l.modulus - 2) (coeff r l.modulus) old j);
      below : (j : ℕ) → j < l.i → coeff r l.out j ≡ old j;
      past : (j : ℕ) → l.n ≤ j → coeff r l.out j ≡ old j;
    }
