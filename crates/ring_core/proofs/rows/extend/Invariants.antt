use Rattle.std.proofs.Common.{◌≡◌, ◌≤◌, ℕ, length, true}
use Rattle.ring_core.specs.Coeffs.{coeff, trim, are_elems}
use Rattle.ring_core.proofs.rows.extend.Given as goal

abbrev pub invariant-loop-i : goal.invariant-loop-i
invariant-loop-i g l =
    let r = g.K.Field.ops l.field in
    record {
      elems : are_elems r l.list.items ≡ true;
      room : l.i ≤ length l.list.items;
      coeffs : (k : ℕ) → coeff r l.list.items k ≡ coeff r l.initial.list.items k;
      trimmed : trim r l.list.items ≡ trim r l.initial.list.items;
    }
