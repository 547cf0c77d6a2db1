use Rattle.std.proofs.Common.{◌≡◌, ◌-◌, ◌<◌, ◌≤◌, suc, length, ◌∙◌, arith}
use Rattle.ring_core.specs.Coeffs.{coeff}
use Rattle.ring_core.proofs.Coefficients.{elem_read}
use Rattle.residue_field.specs.declared.TheConstants.{WIDTH}
use Rattle.residue_field.specs.Residue.{times_x}
use Rattle.field_tower.proofs.Stored.{stored_from, stores_of, stored_of}
use Rattle.field_tower.proofs.StoredValues.{residue_elems}
use Rattle.field_tower.proofs.LetterRows.{none_added}
use Rattle.field_tower.proofs.letters.times_letter.Goals as goal

pub step-requires-clause-out : goal.step-requires-clause-out
step-requires-clause-out g c =
    let field = g.met.F.Field.laws c.args.field.now in
    residue_elems (g.F.Field.ops c.args.field.now) field.ring field.mul_comm c.args.modulus.now c.requires.monic c.args.x c.requires.elem

pub returns : goal.returns
returns g c =
    let r = g.F.Field.ops c.args.field.now in
    let field = g.met.F.Field.laws c.args.field.now in
    let ring = field.ring in
    let modulus = c.args.modulus.now in
    let d = length modulus - 2 in
    let degree = c.requires.monic.degree in
    let width : length c.step.new.out ≡ WIDTH = omega arith in
    let elems = residue_elems r ring field.mul_comm modulus c.requires.monic c.args.x c.requires.elem in
    stored_from r d c.step.new.out (times_x r d (coeff r modulus) (coeff r c.args.x.0)) width
    (λ i (l : i < suc d).
    c.step.ensures.values i (omega arith)
    ∙ none_added r ring c.zero.result d (coeff r modulus) (coeff r c.args.x.0) i c.zero.ensures.value
    (elem_read r modulus ring.closed.zero_in c.requires.monic.elems) (elem_read r c.args.x.0 ring.closed.zero_in elems))
    (λ i (l : suc d ≤ i).
    c.step.ensures.kept i (omega arith) ∙ (stores_of r ring modulus c.requires.monic).place_past c.args.x i (stored_of r modulus c.args.x c.requires.elem) l)
