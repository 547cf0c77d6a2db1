use Rattle.std.proofs.Common.{◌≡◌, ◌+◌, true}
use Rattle.ring_core.specs.Coeffs.{coeff, are_elems}
use Rattle.ring_core.specs.Written.{IsWritten}
use Rattle.ring_core.proofs.field.Field.add_row.Given as goal

abbrev pub invariant-loop-j : goal.invariant-loop-j
invariant-loop-j g l =
    let r = g.Self.Field.ops l.self in
    record {
      elems : are_elems r l.out ≡ true;
      written : IsWritten r.zero l.i l.j (λ k. r.add (coeff r l.initial.out (l.i + k)) (r.mul l.c (coeff r l.row k))) l.initial.out l.out;
    }
