use Rattle.std.proofs.Common.{◌≡◌, [], length, sym, ap, ◌∙◌}
use Rattle.std.proofs.lemmas.Bool.{and_parts, eqb-true}
use Rattle.std.proofs.lemmas.List.{nil_from_length}
use Rattle.ring_core.specs.Coeffs.{trim}
use Rattle.ring_core.specs.Twisted.{list_mul}
use Rattle.ring_core.specs.Monomial.{tau_power}
use Rattle.ring_core.proofs.Twist.{frob_twist}
use Rattle.ring_core.proofs.Monomial.{monomial_in, mul_empty, tau_mul}
use Rattle.ore_poly.proofs.terms.shifted_list.Goals as goal

pub returns-then-is_empty-clause-value : goal.returns-then-is_empty-clause-value
returns-then-is_empty-clause-value g c =
    let k = c.args.field.now in
    let r = g.K.Field.ops k in
    let f = g.K.FrobField.frob_ops k in
    let field = g.met.K.Field.laws k in
    let list = c.args.list.now in
    let power = tau_power r c.args.k in
    let empty : list ≡ [] = nil_from_length list (eqb-true (length list) 0 (sym c.is_empty.ensures ∙ c.if-is_empty.true)) in
    c.new.ensures.items
    ∙ sym (ap (list_mul r f.frob power) empty
    ∙ mul_empty r field.ring f.frob (frob_twist r (g.K.Field.inv_of k) _ f field (g.met.K.FrobField.frob_laws k)) power
    (and_parts _ _ (monomial_in r field.ring r.one c.args.k field.ring.closed.one_in)).0)

pub returns-clause-value : goal.returns-clause-value
returns-clause-value g c =
    let k = c.args.field.now in
    let r = g.K.Field.ops k in
    let f = g.K.FrobField.frob_ops k in
    let field = g.met.K.Field.laws k in
    c.trimmed.ensures.value ∙ ap (trim r) c.in_ok-shifted_values.ensures.value
    ∙ tau_mul r field.ring f.frob (frob_twist r (g.K.Field.inv_of k) _ f field (g.met.K.FrobField.frob_laws k)) c.args.k c.args.list.now c.requires
