use Rattle.std.proofs.Common.{◌≡◌, ◌+◌, true}
use Rattle.ring_core.specs.Coeffs.{coeff, are_elems}
use Rattle.ore_divide.specs.steps.Sides.{term_on}
use Rattle.ring_core.specs.Written.{IsWritten}
use Rattle.ore_divide.proofs.rows.add_multiple.Given as goal

abbrev pub invariant-loop-j : goal.invariant-loop-j
invariant-loop-j g l =
    let r = g.K.Field.ops l.field in
    let frob = (g.K.FrobField.frob_ops l.field).frob in
    record {
      elems : are_elems r l.out ≡ true;
      written : IsWritten r.zero l.k l.j (λ j. r.add (coeff r l.initial.out (l.k + j)) (term_on l.side r frob l.c l.k l.row j)) l.initial.out l.out;
    }
