use Rattle.std.proofs.Common.{◌<◌, ◌≤◌, length, refl, ⊎_elim, arith}
use Rattle.std.proofs.lemmas.Bool.{and_parts, cases_lt}
use Rattle.ring_core.proofs.Coefficients.{coeff_past, same_coeffs}
use Rattle.ore_poly.proofs.terms.lowest_place.Goals as goal

pub returns : goal.returns
returns g c =
    let r = g.K.Field.ops c.args.field.now in
    let ring = (g.met.K.Field.laws c.args.field.now).ring in
    let list = c.args.list.now in
    same_coeffs r ring.closed.zero_in ring.equal list _ (and_parts _ _ c.requires).1 refl
    (λ i.
    ⊎_elim
    (λ (low : i < length list). c.loop-i.invariant i (omega arith))
    (λ (past : length list ≤ i). coeff_past r list i past)
    (cases_lt i (length list)))
