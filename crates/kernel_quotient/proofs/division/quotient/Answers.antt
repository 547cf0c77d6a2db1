use Rattle.std.proofs.Common.{◌≡◌, sym, ◌∙◌, ap, arith}
use Rattle.std.proofs.lemmas.Bool.{and_parts, both_ways}
use Rattle.std.proofs.lemmas.List.{nil_from_length}
use Rattle.ring_core.specs.Ring.{IsElem}
use Rattle.ring_core.proofs.Coefficients.{elem_read}
use Rattle.ring_core.proofs.Degrees.{not_empty}
use Rattle.drinfeld_mod.specs.Module.{constant_of}
use Rattle.kernel_quotient.proofs.Factors.{quotient_found, no_quotient_rest, no_quotient_constant}
use Rattle.kernel_quotient.proofs.division.quotient.Goals as goal

pub returns-then-len-gt0-clause-none : goal.returns-then-len-gt0-clause-none
returns-then-len-gt0-clause-none g c = λ refused.
    let k = c.args.field.now in
    no_quotient_rest _ _ _ _ (g.met.K.Field.laws k) (g.met.K.FrobField.frob_laws k) _ c.requires.module _ _ _ c.in_ok-quotient.ensures
    (not_empty c.in_ok-quotient.field-0.remainder (omega (arith, c.len-2.ensures)))

pub equal-requires-clause-right : goal.equal-requires-clause-right
equal-requires-clause-right g c =
    let r = g.K.Field.ops c.args.field.now in
    ap r.is_elem (c.constant.ensures r)
    ∙ elem_read r c.args.phi.now (g.met.K.Field.laws c.args.field.now).ring.closed.zero_in (and_parts _ _ c.requires.module.canonical).0 0

pub returns-then-not-equal-clause-none : goal.returns-then-not-equal-clause-none
returns-then-not-equal-clause-none g c = λ refused.
    let k = c.args.field.now in
    let r = g.K.Field.ops k in
    let field = g.met.K.Field.laws k in
    let own = c.coeff_at-constant.result in
    let read : own ≡ constant_of r c.in_ok-quotient.field-0.quotient = rw c.as_slice.ensures at c.coeff_at-constant.ensures.value in
    no_quotient_constant _ _ _ _ field (g.met.K.FrobField.frob_laws k) _ c.requires.module _ _ _ c.in_ok-quotient.ensures
    (λ e.
    both_ways c.equal.result c.if-not-equal.true
    (c.equal.ensures ∙ ap (r.same own) (c.constant.ensures r ∙ sym e ∙ sym read) ∙ field.ring.equal.same_refl own c.coeff_at-constant.ensures.elem))

pub returns-clause-answer : goal.returns-clause-answer
returns-clause-answer g c =
    let k = c.args.field.now in
    let r = g.K.Field.ops k in
    let field = g.met.K.Field.laws k in
    let read : c.coeff_at-constant.result ≡ constant_of r c.in_ok-quotient.field-0.quotient = rw c.as_slice.ensures at c.coeff_at-constant.ensures.value in
    let inside : IsElem r c.constant.result =
    ap r.is_elem (c.constant.ensures r) ∙ elem_read r c.args.phi.now field.ring.closed.zero_in (and_parts _ _ c.requires.module.canonical).0 0 in
    rw (c.from_vec.ensures, c.into_vec.ensures)
    (quotient_found _ _ _ _ field (g.met.K.FrobField.frob_laws k) _ c.requires.module _ _ _ c.requires.divisor (omega (arith, c.len.ensures)) c.in_ok-quotient.ensures
    (nil_from_length c.in_ok-quotient.field-0.remainder (omega (arith, c.len-2.ensures)))
    (sym read ∙ field.ring.equal.same_eq _ _ c.coeff_at-constant.ensures.elem inside (sym c.equal.ensures ∙ c.if-not-equal.false) ∙ c.constant.ensures r))
