use Rattle.std.proofs.Common.{◌≡◌, ◌≢◌, ◌-◌, ◌<◌, ◌≤◌, suc, length, length-set, ap, ◌∙◌, arith}
use Rattle.ring_core.specs.Coeffs.{coeff}
use Rattle.ring_core.proofs.Coefficients.{elem_read}
use Rattle.residue_field.specs.declared.TheConstants.{WIDTH}
use Rattle.residue_field.specs.Residue.{constant_at, shifted, residue}
use Rattle.field_tower.specs.steps.Places.{stored}
use Rattle.field_tower.proofs.Writes.{written, unwritten}
use Rattle.field_tower.proofs.Stored.{stored_from}
use Rattle.field_tower.proofs.Letter.{letter_low, letter_one, letter_zero}
use Rattle.field_tower.proofs.residue_ring.Residues.letter.Goals as goal

pub returns-then-self-eq2 : goal.returns-then-self-eq2
unfolding stored
returns-then-self-eq2 g c =
    let r = g.F.Field.ops c.args.self.now.field.now in
    let ring = (g.met.F.Field.laws c.args.self.now.field.now).ring in
    let modulus = c.args.self.now.modulus.now in
    let f = coeff r modulus in
    let d = length modulus - 2 in
    let none : d ≡ 0 = omega arith in
    let zeros = c.zeros-places.result in
    let width : length zeros ≡ WIDTH = omega arith in
    let z = residue r d f 2 (shifted r (constant_at r r.one)) in
    let read = elem_read r modulus ring.closed.zero_in c.args.self.now.monic.elems in
    stored_from r d _ z (length-set zeros 0 _ ∙ width)
    (λ j (l : j < suc d).
    written r zeros 0 _ z j (omega arith) (c.neg.ensures.value ∙ ap r.neg c.coeff_at.ensures.value ∙ letter_low r ring d f read none)
    (λ (e : j ≢ 0). absurd (e (omega arith))))
    (λ j (l : suc d ≤ j). let e : j ≢ 0 = omega arith in unwritten r zeros 0 _ j e (c.zeros-places.ensures.values j))

pub returns-else-self-eq2 : goal.returns-else-self-eq2
unfolding stored
returns-else-self-eq2 g c =
    let r = g.F.Field.ops c.args.self.now.field.now in
    let ring = (g.met.F.Field.laws c.args.self.now.field.now).ring in
    let modulus = c.args.self.now.modulus.now in
    let f = coeff r modulus in
    let d = length modulus - 2 in
    let degree = c.args.self.now.monic.degree in
    let some : 0 < d = omega arith in
    let zeros = c.zeros-places.result in
    let width : length zeros ≡ WIDTH = omega arith in
    let z = residue r d f 2 (shifted r (constant_at r r.one)) in
    let read = elem_read r modulus ring.closed.zero_in c.args.self.now.monic.elems in
    stored_from r d _ z (length-set zeros 1 _ ∙ width)
    (λ j (l : j < suc d).
    written r zeros 1 _ z j (omega arith) (c.one.ensures.value ∙ letter_one r ring d f read some)
    (λ (e : j ≢ 1). c.zeros-places.ensures.values j ∙ letter_zero r ring d f read some j e))
    (λ j (l : suc d ≤ j). let e : j ≢ 1 = omega arith in unwritten r zeros 1 _ j e (c.zeros-places.ensures.values j))
