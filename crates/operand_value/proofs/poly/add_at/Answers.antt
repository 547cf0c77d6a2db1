use Rattle.std.proofs.Common.{◌∙◌, ap, set}
use Rattle.ring_core.specs.Coeffs.{trim}
use Rattle.ring_core.proofs.Coefficients.{elems_set}
use Rattle.operand_value.proofs.Monomials.{added_in_place}
use Rattle.operand_value.proofs.poly.add_at.Goals as goal

pub returns-clause-elems : goal.returns-clause-elems
returns-clause-elems g c =
    let r = g.F.Field.ops c.args.field.now in
    elems_set r c.args.row.now c.args.k _ c.requires.elems c.add-sum.ensures.elem

pub returns-clause-sum : goal.returns-clause-sum
returns-clause-sum g c =
    let r = g.F.Field.ops c.args.field.now in
    ap (λ x. trim r (set c.args.row.now c.args.k x)) (c.add-sum.ensures.value ∙ ap (λ x. r.add x c.args.c) c.coeff_at-old.ensures.value)
    ∙ added_in_place r (g.met.F.Field.laws c.args.field.now).ring c.args.row.now c.args.c c.args.k c.requires.place c.requires.elems c.requires.term
