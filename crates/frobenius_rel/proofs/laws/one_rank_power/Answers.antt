use Rattle.std.proofs.Common.{◌≡◌, ◌-◌, ◌*◌, length, sym, ◌∙◌, ap₂, subst, arith}
use Rattle.ring_core.specs.Powers.{power_of}
use Rattle.fq_poly.specs.Poly.{poly_ops}
use Rattle.drinfeld_mod.specs.Module.{rank_of}
use Rattle.frobenius_rel.proofs.Scaled.{least_only}
use Rattle.frobenius_rel.proofs.Products.{same_factor}
use Rattle.frobenius_rel.proofs.laws.one_rank_power.Goals as goal

pub returns-clause-only : goal.returns-clause-only
returns-clause-only g c = λ k phi a b m s t.
    let same = least_only _ _ _ _ _ (g.met.K.Field.laws k) (g.met.K.Base.Field.laws (g.K.FrobField.base_of k)) (g.met.K.FrobField.frob_laws k)
    (phi, m.canonical) (rank_of phi) (let p = m.rank_pos in omega (arith, p)) m.rank_pos
    s.relation t.relation s.least t.least in
    let times = s.degrees ∙ sym (subst (λ x. t.exponent * (length x - 1) ≡ rank_of phi) (sym same) t.degrees) in
    let exponents = same_factor s.exponent t.exponent (length s.relation - 1) (let l = s.least.long in omega (arith, l)) times in
    s.is ∙ ap₂ (power_of (poly_ops (poly_ops (g.K.Base.Field.ops (g.K.FrobField.base_of k))))) same exponents ∙ sym t.is
