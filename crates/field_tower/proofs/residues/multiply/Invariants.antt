use Rattle.std.proofs.Common.{◌≡◌, ℕ, ◌+◌, ◌-◌, ◌<◌, ◌≤◌, length, true}
use Rattle.ring_core.specs.Coeffs.{coeff, are_elems}
use Rattle.residue_field.proofs.Rows.{rows}
use Rattle.field_tower.proofs.residues.multiply.Given as goal

abbrev pub invariant-loop-i : goal.invariant-loop-i
invariant-loop-i g l =
    let r = g.F.Field.ops l.field in
    record {
      elems : are_elems r l.out ≡ true;
      values : (j : ℕ) → j < l.n → coeff r l.out j ≡ rows r (length l.modulus - 2) (coeff r l.modulus) (l.n - l.i) (λ m. coeff r l.a (l.i + m)) (coeff r l.b) j;
      kept : (j : ℕ) → l.n ≤ j → coeff r l.out j ≡ coeff r l.fn.out j;
    }
