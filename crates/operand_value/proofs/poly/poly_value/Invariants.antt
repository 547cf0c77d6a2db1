use Rattle.std.proofs.Common.{◌≡◌, take, true}
use Rattle.ring_core.specs.Coeffs.{are_elems, trim}
use Rattle.operand_value.specs.Values.{terms_poly}
use Rattle.operand_value.proofs.poly.poly_value.Given as goal

abbrev pub invariant-loop-term : goal.invariant-loop-term
invariant-loop-term g l =
    let r = g.F.Field.ops l.field in
    record {
      elems : are_elems r l.row.items ≡ true;
      value : trim r l.row.items ≡ terms_poly r (g.F.Letters.letters l.field) (take l.term-index l.term-items);
    }
