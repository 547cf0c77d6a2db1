-- The lists of homomorphisms of two modules over a top field exist; isomorphisms and isogenies, or that there
-- are none, from these lists.
use Rattle.std.proofs.Common.{◌≡◌, ℕ, ◌<◌, ◌≤◌, Some, None, List, length, refl, ◌∙◌, ap, ⊎_elim, arith}
use Rattle.std.proofs.lemmas.Bool.{cases_lt}
use Rattle.ring_core.specs.Ring.{RingOps}
use Rattle.ring_core.specs.Field.{FrobOps}
use Rattle.ring_core.specs.Coeffs.{coeff, sum_below}
use Rattle.ring_core.specs.Twisted.{twisted_ops, list_mul}
use Rattle.linear_algebra.specs.Linear.{row_at}
use Rattle.residue_field.specs.declared.TopElem.{TopElem}
use Rattle.residue_field.specs.Base.{ops_of}
use Rattle.residue_field.specs.Top.{Top, ops_of_top, frob_of_top}
use Rattle.residue_field.proofs.BaseLaws.{base_field}
use Rattle.residue_field.proofs.TopLaws.{top_field}
use Rattle.residue_field.proofs.TopFrob.{top_frob_field}
use Rattle.drinfeld_mod.specs.Module.{IsModule}
use Rattle.central_coords.proofs.Places.{extension}
use Rattle.hom_space.proofs.SystemRows.{bounded_exists, full_exists}
use Rattle.hom_space.specs.Full.{at_degree_power, IsFullList}
use Rattle.isomorphism.specs.Isogeny.{HasNoIsogeny}
use Rattle.isomorphism.proofs.Constants.{none as no_isomorphism, first as first_isomorphism}
use Rattle.isomorphism.proofs.Isogenies.{first_isogeny}
use Rattle.answer.specs.declared.Answer.{Answer}
use Rattle.answer.specs.declared.Answer.TheVariants as answer
use Rattle.statement_work.specs.Works.{IsItsBoundedList, IsItsFullList, IsIsomorphismOf, IsIsogenyOf}

-- no members, no isogeny
no_isogeny : {E B : Type 0} (r : RingOps E) (base : RingOps B) (f : FrobOps E B) (phi psi : List E) (list : List (List E)) → IsFullList r base f phi psi list → length list ≡ 0 → HasNoIsogeny r f phi psi
no_isogeny r base f phi psi list p empty u nonzero h =
    let s = p.spans u h in
    nonzero (s.is ∙ ap (λ n. sum_below (twisted_ops r f.frob) n (λ i. list_mul r f.frob (at_degree_power r base f (row_at s.by i)) (row_at list i))) empty)

module _ (t : Top) (phi psi : List TopElem) (source : IsModule (ops_of_top t) phi) (target : IsModule (ops_of_top t) psi) where
  pub some_bounded : (d : ℕ) → (list : List (List TopElem)) × IsItsBoundedList t phi psi d list
  some_bounded d =
      bounded_exists (extension (top_field t) (base_field t.base) (top_frob_field t)) (phi, source.canonical) (psi, target.canonical) d

  pub some_full : (list : List (List TopElem)) × IsItsFullList t phi psi list
  some_full =
      full_exists (extension (top_field t) (base_field t.base) (top_frob_field t)) (phi, source.canonical) (psi, target.canonical)

module _ (t : Top) (phi psi : List TopElem) (list : List (List TopElem)) where
  pub isomorphism_of : IsItsBoundedList t phi psi 0 list → (a : Answer) × IsIsomorphismOf t phi psi a
  isomorphism_of p =
      ⊎_elim
      (λ (no : length list < 1). (
        answer.Iso None,
        no_isomorphism (extension (top_field t) (base_field t.base) (top_frob_field t)) phi psi list p (omega arith),
      ))
      (λ (some : 1 ≤ length list). (
        answer.Iso (Some (coeff (ops_of_top t) (row_at list 0) 0)),
        first_isomorphism (extension (top_field t) (base_field t.base) (top_frob_field t)) phi psi list p some,
      ))
      (cases_lt (length list) 1)

  pub isogeny_of : IsItsFullList t phi psi list → (a : Answer) × IsIsogenyOf t phi psi a
  isogeny_of p =
      ⊎_elim
      (λ (no : length list < 1). (answer.Isogenous None, no_isogeny (ops_of_top t) (ops_of t.base) (frob_of_top t) phi psi list p (omega arith)))
      (λ (some : 1 ≤ length list). (
        answer.Isogenous (Some (row_at list 0)),
        first_isogeny (extension (top_field t) (base_field t.base) (top_frob_field t)) phi psi list p (row_at list 0) some refl,
      ))
      (cases_lt (length list) 1)
