use Rattle.std.proofs.Common.{◌≡◌, ℕ, ◌+◌, ◌<◌, true, length}
use Rattle.ring_core.specs.Monomial.{tau_power}
use Rattle.linear_algebra.specs.Linear.{row_at, are_rows}
use Rattle.fq_poly.specs.Poly.{poly_ops}
use Rattle.drinfeld_mod.specs.Module.{rank_of}
use Rattle.motive_coords.specs.Motive.{IsMotive}
use Rattle.frobenius_rel.proofs.matrix.frobenius_rows.Given as goal

abbrev pub invariant-loop-i : goal.invariant-loop-i
invariant-loop-i g l =
    let r = g.K.Field.ops l.field in
    let f = g.K.FrobField.frob_ops l.field in
    record {
      width : l.rows.width ≡ rank_of l.phi;
      count : length l.rows.rows ≡ l.i;
      shape : are_rows (poly_ops r) (rank_of l.phi) l.rows.rows ≡ true;
      each : (j : ℕ) → j < l.i → IsMotive r f.frob l.phi (tau_power r (f.degree + j)) (row_at l.rows.rows j);
    }
