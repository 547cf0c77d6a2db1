use Rattle.std.proofs.Common.{◌≡◌, ◌+◌, true}
use Rattle.ring_core.specs.Coeffs.{coeff, are_elems}
use Rattle.ring_core.specs.Written.{IsWritten}
use Rattle.residue_field.specs.Base.{ops_of}
use Rattle.field_tower.proofs.row_sums.add_tabled.Given as goal

abbrev pub invariant-loop-j : goal.invariant-loop-j
invariant-loop-j l =
    let r = ops_of l.field in
    record {
      elems : are_elems r l.out ≡ true;
      written : IsWritten r.zero l.i l.j (λ k. r.add (coeff r l.initial.out (l.i + k)) (r.mul l.c (coeff r l.row k))) l.initial.out l.out;
    }
