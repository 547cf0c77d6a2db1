use Rattle.std.proofs.Common.{[], ◌∷◌, length, refl, sym, ap, ◌∙◌, arith}
use Rattle.std.proofs.lemmas.Bool.{and_from}
use Rattle.ring_core.specs.Coeffs.{coeff, trim}
use Rattle.ring_core.proofs.Carrier.{elements, mul_zero}
use Rattle.ring_core.proofs.Coefficients.{coeff_past, elem_read, coeff-list_of}
use Rattle.std.proofs.lemmas.Bool.{and_parts}
use Rattle.ring_core.specs.Coeffs.{are_elems, is_trimmed}
use Rattle.flat_reduce.proofs.RowSteps.{inverse_of, has_inverse}
use Rattle.popov_basis.proofs.Leads.{monic_is}
use Rattle.popov_basis.proofs.leading.monic_row.Goals as goal

pub returns-in_default-clause-monic : goal.returns-in_default-clause-monic
returns-in_default-clause-monic g c =
    let f = c.args.f.now in
    let r = g.F.Field.ops f in
    let row = c.args.row.now in
    absurd (has_inverse r (g.F.Field.inv_of f) (g.met.F.Field.laws f) (row ∷ []) 0 (length row) c.coeff_at-top.result (and_from _ _ c.requires.row refl)
    (λ z. let e = ap length z in omega (arith, e, c.requires.nonzero)) refl c.coeff_at-top.ensures.value c.coeff_at-top.ensures.elem
    (λ x e. c.in_default.not-Some x (c.inv.ensures.value ∙ e)))

pub returns-clause-monic : goal.returns-clause-monic
returns-clause-monic g c =
    let f = c.args.f.now in
    let r = g.F.Field.ops f in
    let field = g.met.F.Field.laws f in
    let row = c.args.row.now in
    let inverse = c.in-Some.inverse in
    let v = inverse_of r (g.F.Field.inv_of f) field c.coeff_at-top.result inverse c.coeff_at-top.ensures.elem (sym c.inv.ensures.value ∙ c.in-Some.is) in
    let read = elem_read r row field.ring.closed.zero_in (and_parts (are_elems r row) (is_trimmed r row) c.requires.row).0 in
    monic_is r (g.F.Field.inv_of f) field row c.trimmed.result.items c.coeff_at-top.result inverse c.requires.row c.trimmed.ensures.elem c.requires.nonzero v.0 c.coeff_at-top.ensures.value v.1
    (λ t.
    ap (λ u. coeff r u t) (c.trimmed.ensures.value ∙ ap (trim r) c.in_ok-values.ensures.value)
    ∙ coeff-list_of r field.ring.closed.zero_in field.ring.equal (length row) (λ i. r.mul inverse (coeff r row i)) (λ j. field.ring.closed.mul_in _ _ v.0 (read j))
    (λ j l. ap (r.mul inverse) (coeff_past r row j l) ∙ ap (λ x. x.0) (mul_zero (elements field.ring) (inverse, v.0))) t)
