use Rattle.std.proofs.Common.{◌≡◌, ℕ, ◌+◌, ◌-◌, ◌<◌, length}
use Rattle.std.specs.Int.{bit_at}
use Rattle.ring_core.specs.Coeffs.{coeff}
use Rattle.residue_field.specs.Base.{ops_of}
use Rattle.residue_field.proofs.Rows.{rows}
use Rattle.field_tower.proofs.bits.mul.Given as goal

abbrev pub invariant-loop-i : goal.invariant-loop-i
invariant-loop-i l =
    let r = ops_of l.base in
    (j : ℕ) → j < l.n → bit_at l.out j ≡ rows r (length l.modulus - 2) (coeff r l.modulus) (l.n - l.i) (λ m. coeff r l.a.0 (l.i + m)) (coeff r l.fn.b.0) j
