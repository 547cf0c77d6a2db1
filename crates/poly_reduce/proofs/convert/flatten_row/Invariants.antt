use Rattle.std.proofs.Common.{◌≡◌, true}
use Rattle.ring_core.specs.Coeffs.{are_elems, first_values}
use Rattle.poly_reduce.specs.Matrices.{member}
use Rattle.poly_reduce.proofs.convert.flatten_row.Given as goal

abbrev pub invariant-loop-t : goal.invariant-loop-t
invariant-loop-t g l =
    let r = g.F.Field.ops l.f in
    record {
      is : l.members.items ≡ first_values l.t (member r l.w l.row);
      elems : are_elems r l.members.items ≡ true;
    }
