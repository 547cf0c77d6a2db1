use Rattle.std.proofs.Common.{length, ap, ◌∙◌}
use Rattle.ring_core.specs.Coeffs.{coeff, are_elems}
use Rattle.ring_core.specs.Powers.{power_of}
use Rattle.ring_core.proofs.Coefficients.{elems-first_values}
use Rattle.ring_core.proofs.FirstValues.{at-first_values}
use Rattle.ring_core.proofs.PowerLaws.{power_in}
use Rattle.operand_value.proofs.powers.power_among.Goals as goal

pub coeff_at-requires : goal.coeff_at-requires
coeff_at-requires g c =
    let r = g.F.Field.ops c.args.field.now in
    let x = c.args.x in
    ap (are_elems r) c.requires.powers
    ∙ elems-first_values r (length c.args.powers.now) (power_of r x) (λ i l. power_in r (g.met.F.Field.laws c.args.field.now).ring x i c.requires.elem)

pub returns-then-place-powers-clause-value : goal.returns-then-place-powers-clause-value
returns-then-place-powers-clause-value g c =
    let r = g.F.Field.ops c.args.field.now in
    let powers = c.args.powers.now in
    c.coeff_at.ensures.value ∙ ap (λ u. coeff r u c.args.k) c.requires.powers
    ∙ at-first_values (length powers) (power_of r c.args.x) c.args.k r.zero c.if-place-powers.true
