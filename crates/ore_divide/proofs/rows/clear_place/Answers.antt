use Rattle.std.proofs.Common.{◌-◌, length, take, sym, ap, ◌∙◌, arith}
use Rattle.ring_core.proofs.Coefficients.{elems_set, elems_take}
use Rattle.ore_divide.specs.steps.Sides.{term_on}
use Rattle.ore_divide.proofs.Cleared.{all_added}
use Rattle.ore_divide.proofs.Sides.{term_without}
use Rattle.ore_divide.proofs.rows.clear_place.Goals as goal

pub add_multiple-requires-clause-row : goal.add_multiple-requires-clause-row
add_multiple-requires-clause-row g c =
    elems_take (g.K.Field.ops c.args.field.now) (length c.args.b.now - 1) c.args.b.now c.requires.divisor

pub returns-clause-elems : goal.returns-clause-elems
returns-clause-elems g c =
    elems_set (g.K.Field.ops c.args.field.now) c.add_multiple.new.out _ _ c.add_multiple.ensures.elems c.zero.ensures.elem

pub returns-clause-added : goal.returns-clause-added
returns-clause-added g c =
    let k = c.args.field.now in
    let r = g.K.Field.ops k in
    let f = g.K.FrobField.frob_ops k in
    let b = c.args.b.now in
    let i = c.args.k in
    let high = length b - 1 in
    let factor = c.clearing_factor-factor.result in
    all_added r c.args.rest.now c.add_multiple.new.out i high
    (term_on c.args.side r f.frob factor i (take high b)) (term_on c.args.side r f.frob factor i b) c.zero.result (omega arith) c.zero.ensures.value c.add_multiple.ensures.added
    (λ j. term_without r (g.K.Field.inv_of k) _ f (g.met.K.Field.laws k) (g.met.K.FrobField.frob_laws k) c.args.side factor i b high j (omega arith))
    (ap (λ x. r.add x (term_on c.args.side r f.frob factor i b high)) (sym c.coeff_at-top.ensures.value) ∙ c.clearing_factor-factor.ensures.clears)
