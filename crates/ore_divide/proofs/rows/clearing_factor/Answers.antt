use Rattle.std.proofs.Common.{◌≡◌, ◌-◌, length, sym, ap, subst, ◌∙◌}
use Rattle.ring_core.specs.Coeffs.{coeff}
use Rattle.ring_core.proofs.Coefficients.{elem_read}
use Rattle.ring_core.proofs.Twist.{frob_twist}
use Rattle.euclid_theory.proofs.OreSizes.{top_cancelled}
use Rattle.ore_divide.specs.steps.Sides.{term_on}
use Rattle.ore_divide.proofs.LeftPlaces.{top_cancelled_left}
use Rattle.ore_divide.proofs.rows.clearing_factor.Goals as goal

pub returns-in-Right-clause-clears : goal.returns-in-Right-clause-clears
returns-in-Right-clause-clears g c =
    let k = c.args.field.now in
    let r = g.K.Field.ops k in
    let f = g.K.FrobField.frob_ops k in
    let field = g.met.K.Field.laws k in
    let b = c.args.b.now in
    let high = length b - 1 in
    let i = c.args.k in
    let is = c.neg.ensures.value ∙ ap r.neg (c.mul-product.ensures.value ∙ ap (r.mul c.args.top) c.frob-raised.ensures.value) in
    subst (λ s. r.add c.args.top (term_on s r f.frob c.neg.result i b high) ≡ r.zero) (sym c.in-Right.is)
    (ap (λ x. r.add c.args.top (r.mul x (f.frob (coeff r b high) i))) is
    ∙ top_cancelled r (g.K.Field.inv_of k) field f.frob (frob_twist r (g.K.Field.inv_of k) _ f field (g.met.K.FrobField.frob_laws k)) c.args.top (coeff r b high) c.args.inverse i
    c.requires.top (elem_read r b field.ring.closed.zero_in c.requires.divisor high) c.requires.inverse_in c.requires.inverts)

pub returns-in-Left-clause-clears : goal.returns-in-Left-clause-clears
returns-in-Left-clause-clears g c =
    let k = c.args.field.now in
    let r = g.K.Field.ops k in
    let f = g.K.FrobField.frob_ops k in
    let ring = (g.met.K.Field.laws k).ring in
    let b = c.args.b.now in
    let high = length b - 1 in
    let minus = c.neg-minus.ensures.value ∙ ap r.neg c.mul-product-in-Left.ensures.value in
    let root = ap (λ x. f.frob x high) c.frob.ensures.value ∙ c.steps_back.ensures _ c.neg-minus.ensures.elem ∙ minus in
    subst (λ s. r.add c.args.top (term_on s r f.frob c.frob.result c.args.k b high) ≡ r.zero) (sym c.in-Left.is)
    (top_cancelled_left r ring c.args.top c.args.inverse (coeff r b high) (f.frob c.frob.result high)
    c.requires.top c.requires.inverse_in (elem_read r b ring.closed.zero_in c.requires.divisor high) c.requires.inverts root)
