use Rattle.std.proofs.Common.{◌≡◌, length, true}
use Rattle.ring_core.specs.Coeffs.{are_elems}
use Rattle.ore_poly.specs.steps.Raised.{AreRaised}
use Rattle.ore_poly.proofs.product.raised_rows.Given as goal

abbrev pub invariant-loop-t : goal.invariant-loop-t
invariant-loop-t g l =
    let r = g.K.Field.ops l.field in
    record {
      len : length l.rows.items ≡ l.t;
      elems : are_elems r l.rows.items ≡ true;
      raised : AreRaised r (g.K.FrobField.frob_ops l.field).frob l.b l.rows.items;
    }
