use Rattle.std.proofs.Common.{◌≡◌, ◌≤◌, true, sym, ap, subst, ◌∙◌, arith}
use Rattle.ring_core.specs.Coeffs.{are_elems, same_lists}
use Rattle.residue_field.specs.declared.TheConstants.{WIDTH}
use Rattle.residue_field.specs.Residue.{constant_at}
use Rattle.residue_field.proofs.TopPlaces.{elems_of}
use Rattle.field_tower.specs.steps.Places.{stored}
use Rattle.field_tower.proofs.Stored.{stored_in, none_is}
use Rattle.field_tower.proofs.places.is_zero.Goals as goal

pub equal-requires-clause-right : goal.equal-requires-clause-right
equal-requires-clause-right g c =
    let r = g.F.Field.ops c.args.field.now in
    let ring = (g.met.F.Field.laws c.args.field.now).ring in
    let fits : 1 ≤ WIDTH = omega arith in
    let is = c.constant.ensures 0 ∙ ap (λ x. stored r 0 (constant_at r x)) c.zero.ensures.value ∙ none_is r 0 in
    subst (λ t. are_elems r t.0 ≡ true) (sym is)
    (elems_of r ring 0 fits _ (stored_in r 0 ring fits (λ i. r.zero) (λ i. ring.closed.zero_in)))

pub returns : goal.returns
returns g c =
    λ d.
    let r = g.F.Field.ops c.args.field.now in
    c.equal.ensures ∙ ap (λ t. same_lists r c.args.a.0 t.0) (c.constant.ensures d ∙ ap (λ x. stored r d (constant_at r x)) c.zero.ensures.value ∙ none_is r d)
