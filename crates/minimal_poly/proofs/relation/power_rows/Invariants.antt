use Rattle.std.proofs.Common.{◌≡◌}
use Rattle.ring_core.specs.Ring.{IsElem}
use Rattle.ring_core.specs.Coeffs.{first_values}
use Rattle.ring_core.specs.Powers.{power_of}
use Rattle.minimal_poly.specs.steps.PowerRows.{power_row}
use Rattle.minimal_poly.proofs.relation.power_rows.Given as goal

abbrev pub invariant-loop-i : goal.invariant-loop-i
invariant-loop-i g l =
    let r = g.K.Field.ops l.k in
    record {
      width : l.rows.width ≡ (g.K.FrobField.frob_ops l.k).degree;
      rows : l.rows.rows ≡ first_values l._i (power_row r (g.K.FrobField.frob_ops l.k) l.c);
      elem : IsElem r l.power;
      power : l.power ≡ power_of r l.c l._i;
    }
