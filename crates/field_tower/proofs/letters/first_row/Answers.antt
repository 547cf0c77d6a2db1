use Rattle.std.proofs.Common.{◌≡◌, ◌+◌, ◌-◌, suc, length, ap, ◌∙◌, arith}
use Rattle.ring_core.specs.Coeffs.{coeff}
use Rattle.ring_core.proofs.Coefficients.{elem_read}
use Rattle.field_tower.specs.steps.Lanes.{letter_row, letter_residue}
use Rattle.field_tower.proofs.FilledPlaces.{filled_none, filled_more, filled_all}
use Rattle.field_tower.proofs.LetterRows.{power_at, stored_same}
use Rattle.field_tower.proofs.LetterPowers.{first-row}
use Rattle.field_tower.proofs.letters.first_row.Goals as goal

pub loop-i-init : goal.loop-i-init
loop-i-init g c = filled_none (g.F.Field.ops c.args.field.now) _ c.zeros-places.result (omega arith) c.zeros-places.ensures.values

pub loop-i-preserved : goal.loop-i-preserved
loop-i-preserved g c =
    let r = g.F.Field.ops c.args.field.now in
    let room = c.requires.monic.room in
    filled_more r (λ j. r.neg (coeff r c.args.modulus.now j)) c.loop-i.places c.loop-i.i _ (omega arith) c.loop-i.invariant
    (c.neg.ensures.value ∙ ap r.neg c.coeff_at.ensures.value)

pub returns : goal.returns
unfolding letter_row
returns g c =
    let r = g.F.Field.ops c.args.field.now in
    let ring = (g.met.F.Field.laws c.args.field.now).ring in
    let modulus = c.args.modulus.now in
    let d = length modulus - 2 in
    let degree = c.requires.monic.degree in
    let next : suc d ≡ length modulus - 1 + 0 = omega arith in
    filled_all r (λ j. r.neg (coeff r modulus j)) c.loop-i.places c.loop-i.i d (omega arith) c.loop-i.invariant
    ∙ stored_same r d (λ j. r.neg (coeff r modulus j)) (letter_residue r d (coeff r modulus) (suc d))
    (first-row r ring d (coeff r modulus) (elem_read r modulus ring.closed.zero_in c.requires.monic.elems))
    ∙ ap (power_at r modulus) next
