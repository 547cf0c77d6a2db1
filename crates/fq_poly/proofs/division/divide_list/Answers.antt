use Rattle.std.proofs.Common.{◌≡◌, length, refl, ap, ◌∙◌, arith}
use Rattle.ring_core.specs.Coeffs.{coeff, trim}
use Rattle.ring_core.proofs.Coefficients.{coeff-first_values}
use Rattle.ring_core.proofs.RowSteps.{whole_written}
use Rattle.ring_core.proofs.FirstValues.{length-first_values}
use Rattle.fq_poly.proofs.Clearing.{division_done}
use Rattle.fq_poly.proofs.division.divide_list.Goals as goal

pub clear_places-requires-clause-places : goal.clear_places-requires-clause-places
clear_places-requires-clause-places g c =
    let r = g.F.Field.ops c.args.field.now in
    let places = c.saturating_sub-places.result in
    let rest : length c.deref_mut.result.now ≡ length c.args.a.now = ap length (c.deref_mut.ensures.value ∙ c.in_ok-rest.ensures) in
    let quotient : length c.deref_mut-2.result.now ≡ places =
    ap length (c.deref_mut-2.ensures.value ∙ c.in_ok-quotient.ensures.value) ∙ length-first_values places (λ i. r.zero) in
    omega (arith, c.saturating_sub-places.ensures)

pub clear_places-requires-clause-zeros : goal.clear_places-requires-clause-zeros
clear_places-requires-clause-zeros g c =
    let r = g.F.Field.ops c.args.field.now in
    λ k.
    ap (λ u. coeff r u k) (c.deref_mut-2.ensures.value ∙ c.in_ok-quotient.ensures.value)
    ∙ coeff-first_values r c.saturating_sub-places.result (λ i. r.zero) (λ i l. refl) k

pub returns : goal.returns
returns g c =
    let r = g.F.Field.ops c.args.field.now in
    let field = g.met.F.Field.laws c.args.field.now in
    let rest = c.in_ok-rest.rest in
    let quotient = c.in_ok-quotient.quotient in
    division_done r field.ring field.one_ne_zero c.args.a.now _ _ _ _ _
    c.requires.dividend c.clear_places.ensures.quotient c.clear_places.ensures.rest c.requires.nonzero
    (rw (c.deref_mut.ensures.value, c.in_ok-rest.ensures) at c.clear_places.ensures.sum)
    c.clear_places.ensures.cleared
    (c.trimmed.ensures.value
    ∙ ap (trim r)
    (whole_written quotient.len c.clear_places.new.quotient quotient.items (omega (arith, quotient.ok.0, ap length c.deref_mut-2.ensures.value)) (omega (arith, quotient.ok.0))))
    (c.trimmed-2.ensures.value
    ∙ ap (trim r) (whole_written rest.len c.clear_places.new.rest rest.items (omega (arith, rest.ok.0, ap length c.deref_mut.ensures.value)) (omega (arith, rest.ok.0))))
