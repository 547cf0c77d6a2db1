use Rattle.std.proofs.Common.{◌≡◌, MatchOption, sym, ◌∙◌, subst, arith}
use Rattle.ring_core.specs.Ring.{IsElem}
use Rattle.drinfeld_mod.proofs.Modules.{top_of_module}
use Rattle.drinfeld_mod.proofs.Norms.{power_nonzero, raised, invariant_is}
use Rattle.drinfeld_mod.proofs.invariant.j.Goals as goal

pub unreachable-requires : goal.unreachable-requires
unreachable-requires g c =
    let k = c.args.field.now in
    let r = g.K.Field.ops k in
    let field = g.met.K.Field.laws k in
    let laws = g.met.K.FrobField.frob_laws k in
    let bottom = c.frobenius_product-bottom.result in
    let none =
    subst (λ o. MatchOption o (bottom ≡ r.zero) (λ x. IsElem r x × (r.mul bottom x ≡ r.one))) (sym c.inv.ensures.value ∙ c.in_default.is)
    (field.inv_is bottom c.frobenius_product-bottom.ensures.elem) in
    let top = top_of_module r field.ring.closed.zero_in field.ring.equal c.args.phi.now c.requires.module in
    power_nonzero _ _ _ _ field laws _ _ top.0 top.1
    (sym
    (raised _ _ _ _ field laws c.args.q c.requires.power c.args.phi.now c.requires.module _ _ _ _ _
    (rw (c.as_slice-2.ensures, c.rank-rank.ensures) at c.coeff_at-last.ensures.value) c.frobenius_product-bottom.ensures.value)
    ∙ none)

pub returns : goal.returns
returns g c =
    let k = c.args.field.now in
    let r = g.K.Field.ops k in
    let field = g.met.K.Field.laws k in
    let laws = g.met.K.FrobField.frob_laws k in
    let phi = c.args.phi.now in
    let bottom = c.frobenius_product-bottom.result in
    let raise = raised r _ _ _ field laws c.args.q c.requires.power phi c.requires.module in
    let inverse =
    subst (λ o. MatchOption o (bottom ≡ r.zero) (λ x. IsElem r x × (r.mul bottom x ≡ r.one))) (sym c.inv.ensures.value ∙ c.in-Some.is)
    (field.inv_is bottom c.frobenius_product-bottom.ensures.elem) in (
      omega arith,
      omega (arith, c.rank-rank.ensures),
      rw c.mul.ensures.value
          (invariant_is r _ _ _ field laws c.args.q (omega (arith, c.requires.size)) phi c.args.i _ _ bottom c.in-Some.inverse
          (rw c.rank-rank.ensures at c.greatest_common_divisor-e.ensures.divisor)
          (raise _ _ _ _ _ (rw c.as_slice.ensures at c.coeff_at-member.ensures.value) (rw c.rank-rank.ensures at c.frobenius_product-top.ensures.value))
          (raise _ _ _ _ _ (rw (c.as_slice-2.ensures, c.rank-rank.ensures) at c.coeff_at-last.ensures.value) c.frobenius_product-bottom.ensures.value)
          c.frobenius_product-top.ensures.elem c.frobenius_product-bottom.ensures.elem inverse.0 inverse.1),
    )
