use Rattle.std.proofs.Common.{◌≡◌, ℕ, ◌++◌, true, length, map}
use Rattle.ring_core.specs.Coeffs.{are_elems, first_values}
use Rattle.linear_algebra.proofs.Gather.{leads}
use Rattle.fq_linear.specs.steps.Elimination.{is_lead, slot, AreFinished}
use Rattle.fq_linear.proofs.gather.push_all.Given as goal

abbrev pub invariant-loop-j : goal.invariant-loop-j
invariant-loop-j g l =
    let r = g.F.Field.ops l.f in
    record {
      width : l.basis.width ≡ l.cut;
      row_len : length l.row ≡ length l.fn.row;
      row_elems : are_elems r l.row ≡ true;
      rows : (finished : ℕ → ℕ → _) → AreFinished r (length l.fn.row) (is_lead l.index) (slot r (length l.fn.row) l.index l.cells) finished
          → l.basis.rows ≡ l.fn.basis.rows ++ map (λ j. first_values l.cut (finished j)) (leads (is_lead l.index) l.j);
    }
