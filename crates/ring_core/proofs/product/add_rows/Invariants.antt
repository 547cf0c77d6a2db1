use Rattle.std.proofs.Common.{◌≡◌, true}
use Rattle.ring_core.specs.Coeffs.{are_elems}
use Rattle.ring_core.proofs.RowSteps.{HasRows}
use Rattle.ring_core.proofs.product.add_rows.Given as goal

abbrev pub invariant-loop-i : goal.invariant-loop-i
invariant-loop-i g l =
    let r = g.T.Over.Field.ops (g.T.TwistedRing.over l.ring) in
    let frob = g.T.TwistedRing.twist l.ring in
    record {
      out_elems : are_elems r l.out ≡ true;
      row_elems : are_elems r l.row ≡ true;
      rows : HasRows r frob l.a l.initial.row l.out l.row l.i;
    }
