use Rattle.std.proofs.Common.{◌≡◌, length, refl, ap, ◌∙◌, arith}
use Rattle.ring_core.specs.Coeffs.{coeff, trim}
use Rattle.ring_core.proofs.Coefficients.{coeff-first_values}
use Rattle.ring_core.proofs.RowSteps.{whole_written}
use Rattle.ring_core.proofs.FirstValues.{length-first_values}
use Rattle.ore_divide.proofs.Quotients.{division_done}
use Rattle.ore_divide.proofs.lists.divide_list.Goals as goal

pub clear_places-requires-clause-zeros : goal.clear_places-requires-clause-zeros
clear_places-requires-clause-zeros g c =
    let r = g.K.Field.ops c.args.field.now in
    λ i.
    ap (λ u. coeff r u i) (c.deref_mut-2.ensures.value ∙ c.in_ok-quotient.ensures.value)
    ∙ coeff-first_values r c.saturating_sub-places.result (λ i. r.zero) (λ i l. refl) i

pub clear_places-requires-clause-room : goal.clear_places-requires-clause-room
clear_places-requires-clause-room g c =
    let r = g.K.Field.ops c.args.field.now in
    let places = c.saturating_sub-places.result in
    let rest : length c.deref_mut.result.now ≡ length c.args.a.now = ap length (c.deref_mut.ensures.value ∙ c.in_ok-rest.ensures) in
    let quotient : length c.deref_mut-2.result.now ≡ places =
    ap length (c.deref_mut-2.ensures.value ∙ c.in_ok-quotient.ensures.value) ∙ length-first_values places (λ i. r.zero) in
    omega (arith, c.saturating_sub-places.ensures)

pub returns : goal.returns
returns g c =
    let k = c.args.field.now in
    let r = g.K.Field.ops k in
    let rest = c.in_ok-rest.rest in
    let quotient = c.in_ok-quotient.quotient in
    division_done r _ _ _ (g.met.K.Field.laws k) (g.met.K.FrobField.frob_laws k) c.args.a.now _ _ _ _ _
    c.requires.dividend c.requires.divisor c.clear_places.ensures.rest c.clear_places.ensures.quotient c.requires.nonzero c.clear_places.ensures.cleared
    (c.trimmed.ensures.value
    ∙ ap (trim r)
    (whole_written quotient.len c.clear_places.new.quotient quotient.items (omega (arith, quotient.ok.0, ap length c.deref_mut-2.ensures.value)) (omega (arith, quotient.ok.0))))
    (c.trimmed-2.ensures.value
    ∙ ap (trim r) (whole_written rest.len c.clear_places.new.rest rest.items (omega (arith, rest.ok.0, ap length c.deref_mut.ensures.value)) (omega (arith, rest.ok.0))))
    c.args.side (rw (c.deref_mut.ensures.value, c.in_ok-rest.ensures) at c.clear_places.ensures.divided)
