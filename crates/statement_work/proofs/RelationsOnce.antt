-- A module over a top field has one list of motive coordinates of each twisted polynomial, one least relation
-- of Frobenius, and one power of it of the degree of the rank or one reason why there is none.
use Rattle.std.proofs.Common.{◌≡◌, ℕ, suc, ◌-◌, ◌*◌, true, List, length, sym, ◌∙◌, ap, ap₂, subst, arith}
use Rattle.ring_core.specs.Coeffs.{is_canonical}
use Rattle.ring_core.specs.Powers.{power_of}
use Rattle.residue_field.specs.declared.TopElem.{TopElem}
use Rattle.residue_field.specs.Base.{ops_of, inverse_of}
use Rattle.residue_field.specs.Top.{Top, ops_of_top, inverse_of_top, frob_of_top}
use Rattle.residue_field.proofs.BaseLaws.{base_field}
use Rattle.residue_field.proofs.TopLaws.{top_field}
use Rattle.residue_field.proofs.TopFrob.{top_frob_field}
use Rattle.fq_poly.specs.Poly.{poly_ops}
use Rattle.drinfeld_mod.specs.Module.{IsModule, rank_of}
use Rattle.motive_coords.specs.Motive.{IsMotive}
use Rattle.motive_coords.proofs.MotiveValue.{motive_only}
use Rattle.frobenius_rel.proofs.Scaled.{least_only}
use Rattle.frobenius_rel.proofs.Products.{same_factor}
use Rattle.answer.specs.declared.Answer.{Answer}
use Rattle.answer.specs.declared.Answer.TheVariants as answer
use Rattle.statement_work.specs.Works.{IsItsLeastRelation, IsPowerOf}

module _ (t : Top) (phi : List TopElem) (m : IsModule (ops_of_top t) phi) where
  degree : length phi ≡ suc (rank_of phi)
  degree = let pos = m.rank_pos in omega (arith, pos)

  pub one_motive : (u : List TopElem) (x y : List (List TopElem)) → is_canonical (ops_of_top t) u ≡ true
      → IsMotive (ops_of_top t) (frob_of_top t).frob phi u x → IsMotive (ops_of_top t) (frob_of_top t).frob phi u y → x ≡ y
  one_motive u x y cu h g =
      motive_only (ops_of_top t) (inverse_of_top t) (ops_of t.base) (frob_of_top t) (top_field t) (top_frob_field t)
      (phi, m.canonical) (rank_of phi) degree m.rank_pos (u, cu) x y h g

  pub one_relation : (x y : List (List ℕ)) → IsItsLeastRelation t phi x → IsItsLeastRelation t phi y → x ≡ y
  one_relation x y h g =
      least_only (ops_of_top t) (inverse_of_top t) (ops_of t.base) (inverse_of t.base) (frob_of_top t) (top_field t) (base_field t.base) (top_frob_field t)
      (phi, m.canonical) (rank_of phi) degree m.rank_pos x y h g

  pub one_power : (a b : Answer) → IsPowerOf t phi a → IsPowerOf t phi b → a ≡ b
  one_power (answer.Relation x) (answer.Relation y) h g =
      let same = one_relation h.relation g.relation h.least g.least in
      let times = h.degrees ∙ sym (subst (λ l. g.exponent * (length l - 1) ≡ rank_of phi) (sym same) g.degrees) in
      let exponents = same_factor h.exponent g.exponent (length h.relation - 1) (let long = h.least.long in omega (arith, long)) times in
      ap (λ l. answer.Relation l) (h.is ∙ ap₂ (power_of (poly_ops (poly_ops (ops_of t.base)))) same exponents ∙ sym g.is)
  one_power (answer.Relation x) (answer.NoPower n d) h g =
      let same = one_relation g.relation h.relation g.least h.least in
      absurd (g.none h.exponent (ap (λ i. h.exponent * i) (g.degree ∙ ap (λ l. length l - 1) same) ∙ h.degrees ∙ sym g.rank))
  one_power (answer.Relation x) b h g = absurd g
  one_power (answer.NoPower n d) (answer.Relation y) h g =
      let same = one_relation h.relation g.relation h.least g.least in
      absurd (h.none g.exponent (ap (λ i. g.exponent * i) (h.degree ∙ ap (λ l. length l - 1) same) ∙ g.degrees ∙ sym h.rank))
  one_power (answer.NoPower n d) (answer.NoPower i j) h g =
      let same = one_relation h.relation g.relation h.least g.least in
      ap₂ (λ x y. answer.NoPower x y) (h.degree ∙ ap (λ l. length l - 1) same ∙ sym g.degree) (h.rank ∙ sym g.rank)
  one_power (answer.NoPower n d) b h g = absurd g
  one_power a b h g = absurd h
