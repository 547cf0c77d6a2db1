-- Two modules over a top field have one list of homomorphisms of each kind, and so one answer to each form
-- that is answered from such a list.
use Rattle.std.proofs.Common.{◌≡◌, ℕ, Some, None, List, length, refl, sym, ◌∙◌, ap}
use Rattle.linear_algebra.specs.Linear.{row_at}
use Rattle.residue_field.specs.declared.TopElem.{TopElem}
use Rattle.residue_field.specs.Top.{Top, ops_of_top}
use Rattle.residue_field.proofs.BaseLaws.{base_field}
use Rattle.residue_field.proofs.TopLaws.{top_field}
use Rattle.residue_field.proofs.TopFrob.{top_frob_field}
use Rattle.drinfeld_mod.specs.Module.{IsModule}
use Rattle.central_coords.proofs.Places.{extension}
use Rattle.hom_space.proofs.BoundedList.{one_bounded_list}
use Rattle.hom_space.proofs.FullList.{one_full_list}
use Rattle.script_lang.proofs.Equal.{same_head}
use Rattle.answer.specs.declared.Answer.{Answer}
use Rattle.answer.specs.declared.Answer.TheVariants as answer
use Rattle.statement_work.specs.Greatest.{greatest_degree}
use Rattle.statement_work.specs.Works.{IsMembersOf, IsItsBoundedList, IsItsFullList, IsCountOf, IsIsomorphismOf, IsIsogenyOf}

pub one_members : (a b : Answer) (P : List (List TopElem) → Type 0) → ((x y : List (List TopElem)) → P x → P y → x ≡ y) → IsMembersOf a P → IsMembersOf b P → a ≡ b
one_members a b P once h g = h.1 ∙ ap (λ x. answer.Members x) (once h.0 g.0 h.2 g.2) ∙ sym g.1

module _ (t : Top) (phi psi : List TopElem) (source : IsModule (ops_of_top t) phi) (target : IsModule (ops_of_top t) psi) where
  pub one_bounded : (d : ℕ) (a b : List (List TopElem)) → IsItsBoundedList t phi psi d a → IsItsBoundedList t phi psi d b → a ≡ b
  one_bounded d a b h g =
      one_bounded_list (extension (top_field t) (base_field t.base) (top_frob_field t)) (phi, source.canonical) (psi, target.canonical) d a b h g

  pub one_full : (a b : List (List TopElem)) → IsItsFullList t phi psi a → IsItsFullList t phi psi b → a ≡ b
  one_full a b h g =
      one_full_list (extension (top_field t) (base_field t.base) (top_frob_field t)) (phi, source.canonical) (psi, target.canonical) a b h g

  pub one_count : (a b : Answer) → IsCountOf t phi psi a → IsCountOf t phi psi b → a ≡ b
  one_count a b h g = h.1 ∙ ap (λ x. answer.Count (length x) (greatest_degree x)) (one_full h.0 g.0 h.2 g.2) ∙ sym g.1

  pub one_isomorphism : (a b : Answer) → IsIsomorphismOf t phi psi a → IsIsomorphismOf t phi psi b → a ≡ b
  one_isomorphism (answer.Iso (Some c)) (answer.Iso (Some d)) h g =
      ap (λ x. answer.Iso (Some x)) (same_head (sym h.first ∙ ap (λ x. row_at x 0) (one_bounded 0 h.list g.list h.bounded g.bounded) ∙ g.first))
  one_isomorphism (answer.Iso (Some c)) (answer.Iso None) h g = absurd (g c h.elem h.nonzero h.hom)
  one_isomorphism (answer.Iso (Some c)) b h g = absurd g
  one_isomorphism (answer.Iso None) (answer.Iso (Some d)) h g = absurd (h d g.elem g.nonzero g.hom)
  one_isomorphism (answer.Iso None) (answer.Iso None) h g = refl
  one_isomorphism (answer.Iso None) b h g = absurd g
  one_isomorphism a b h g = absurd h

  pub one_isogeny : (a b : Answer) → IsIsogenyOf t phi psi a → IsIsogenyOf t phi psi b → a ≡ b
  one_isogeny (answer.Isogenous (Some u)) (answer.Isogenous (Some v)) h g =
      ap (λ x. answer.Isogenous (Some x)) (sym h.first ∙ ap (λ x. row_at x 0) (one_full h.list g.list h.full g.full) ∙ g.first)
  one_isogeny (answer.Isogenous (Some u)) (answer.Isogenous None) h g = absurd (g u h.nonzero h.hom)
  one_isogeny (answer.Isogenous (Some u)) b h g = absurd g
  one_isogeny (answer.Isogenous None) (answer.Isogenous (Some v)) h g = absurd (h v g.nonzero g.hom)
  one_isogeny (answer.Isogenous None) (answer.Isogenous None) h g = refl
  one_isogeny (answer.Isogenous None) b h g = absurd g
  one_isogeny a b h g = absurd h
