-- Modules with one constant aren't refused.
use Rattle.std.proofs.Common.{◌≡◌, not, true, false, Option, List, sym, ap, ◌∙◌}
use Rattle.std.proofs.lemmas.Bool.{false≢true}
use Rattle.ring_core.specs.Ring.{RingOps}
use Rattle.ring_core.specs.Field.{IsField}
use Rattle.ring_core.proofs.Coefficients.{elem_read}
use Rattle.residue_field.specs.declared.TopElem.{TopElem}
use Rattle.residue_field.specs.Base.{ops_of}
use Rattle.residue_field.specs.Top.{Top, ops_of_top, frob_of_top, inverse_of_top}
use Rattle.residue_field.proofs.TopLaws.{top_field}
use Rattle.drinfeld_mod.specs.Module.{IsModule, constant_of}
use Rattle.kept_lists.specs.declared.KeptList.{KeptList}
use Rattle.kept_lists.specs.Pairs.{has_pair, pairs_of}
use Rattle.kept_lists.proofs.Finding.{module_elems}
use Rattle.kept_lists.proofs.There.{constants_there}
use Rattle.statement_work.specs.Keeps.{AreItsFullLists}
use Rattle.statement_work.specs.Refusals.{constants_differ}

one_constant : {E : Type 0} (r : RingOps E) (inv : E → Option E) (field : IsField r inv) (phi psi : List E) → IsModule r phi → constant_of r phi ≡ constant_of r psi → constants_differ r phi psi ≡ false
one_constant r inv field phi psi m e =
    let c = constant_of r phi in
    ap (λ d. not (r.same c d)) (sym e) ∙ ap not (field.ring.equal.same_refl c (elem_read r phi field.ring.closed.zero_in (module_elems r phi m) 0))

-- The constants of a pair that is kept are equal.
pub kept_agree : (t : Top) (phi psi : List TopElem) (kept : List (KeptList TopElem)) → IsModule (ops_of_top t) phi → IsModule (ops_of_top t) psi → AreItsFullLists t kept
    → has_pair (ops_of_top t) phi psi (pairs_of kept) ≡ true → constants_differ (ops_of_top t) phi psi ≡ true → ⊥
kept_agree t phi psi kept source target full h differ =
    let e = constants_there (ops_of_top t) (inverse_of_top t) (ops_of t.base) (frob_of_top t) (top_field t) phi psi kept source target full h in
    false≢true (sym (one_constant (ops_of_top t) (inverse_of_top t) (top_field t) phi psi source e) ∙ differ)
