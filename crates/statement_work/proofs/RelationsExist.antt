-- Motive coordinates over a top field and the least relation of Frobenius exist; its power of the degree of the
-- rank, or that there is none.
use Rattle.std.proofs.Common.{◌≡◌, ℕ, suc, ◌-◌, ◌*◌, ◌/◌, ◌%◌, true, List, length, refl, sym, ◌∙◌, ⊎_elim, arith}
use Rattle.std.proofs.lemmas.Bool.{cases_eq}
use Rattle.ring_core.specs.Coeffs.{is_canonical}
use Rattle.ring_core.specs.Powers.{power_of}
use Rattle.residue_field.specs.declared.TopElem.{TopElem}
use Rattle.residue_field.specs.Base.{ops_of, inverse_of}
use Rattle.residue_field.specs.Top.{Top, ops_of_top, inverse_of_top, frob_of_top}
use Rattle.residue_field.proofs.BaseLaws.{base_field}
use Rattle.residue_field.proofs.TopLaws.{top_field}
use Rattle.residue_field.proofs.TopFrob.{top_frob_field}
use Rattle.fq_poly.specs.Poly.{poly_ops}
use Rattle.drinfeld_mod.specs.Module.{IsModule, rank_of}
use Rattle.drinfeld_mod.proofs.Norms.{no_rest, divides_exactly, quotient_is}
use Rattle.motive_coords.specs.Motive.{IsMotive}
use Rattle.motive_coords.proofs.MotiveLaws.{motive_exists}
use Rattle.frobenius_rel.proofs.Exists.{least_exists}
use Rattle.answer.specs.declared.Answer.{Answer}
use Rattle.answer.specs.declared.Answer.TheVariants as answer
use Rattle.statement_work.specs.Works.{IsItsLeastRelation, IsPowerOf}

module _ (t : Top) (phi : List TopElem) (m : IsModule (ops_of_top t) phi) where
  degree : length phi ≡ suc (rank_of phi)
  degree = let pos = m.rank_pos in omega (arith, pos)

  pub some_motive : (u : List TopElem) → is_canonical (ops_of_top t) u ≡ true → (list : List (List TopElem)) × IsMotive (ops_of_top t) (frob_of_top t).frob phi u list
  some_motive u cu =
      motive_exists (ops_of_top t) (inverse_of_top t) (ops_of t.base) (frob_of_top t) (top_field t) (top_frob_field t)
      (phi, m.canonical) (rank_of phi) degree m.rank_pos (u, cu)

  pub some_relation : (relation : List (List ℕ)) × IsItsLeastRelation t phi relation
  some_relation =
      least_exists (ops_of_top t) (inverse_of_top t) (ops_of t.base) (inverse_of t.base) (frob_of_top t) (top_field t) (base_field t.base) (top_frob_field t)
      (phi, m.canonical) (rank_of phi) degree m.rank_pos

module _ (t : Top) (phi : List TopElem) where
  pub power_of_relation : (relation : List (List ℕ)) → IsItsLeastRelation t phi relation → (a : Answer) × IsPowerOf t phi a
  power_of_relation relation least =
      let m = length relation - 1 in
      let d = rank_of phi in
      ⊎_elim
      (λ (even : d % m ≡ 0).
      let exact : d ≡ m * (d / m) = quotient_is m d (divides_exactly m d even) in
      let turned : d / m * m ≡ m * (d / m) = omega arith in (
        answer.Relation (power_of (poly_ops (poly_ops (ops_of t.base))) relation (d / m)),
        record { relation = relation; least = least; exponent = d / m; degrees = turned ∙ sym exact; is = refl },
      ))
      (λ (odd : d % m ≡ 0 → ⊥). (
        answer.NoPower m d,
        record { relation = relation; least = least; degree = refl; rank = refl; none = λ e is. odd (no_rest m d (e, sym is)) },
      ))
      (cases_eq (d % m) 0)
