use Rattle.std.proofs.Common.{ap, ◌∙◌}
use Rattle.ring_core.specs.Coeffs.{trim}
use Rattle.ring_core.proofs.Monomial.{constant_mul}
use Rattle.ring_core.proofs.product.scaled_list.Goals as goal

pub returns-clause-value : goal.returns-clause-value
returns-clause-value g c =
    let k = c.args.ring.now in
    let over = g.T.TwistedRing.over k in
    let r = g.T.Over.Field.ops over in
    let trimmed = rw c.field-field.ensures at c.trimmed.ensures.value in
    let scaled = rw c.field-field.ensures at c.in_ok-scaled_values.ensures.value in
    trimmed ∙ ap (trim r) scaled
    ∙ constant_mul r (g.met.T.Over.Field.laws over).ring (g.T.TwistedRing.twist k) (g.met.T.TwistedRing.twist_laws k) c.args.c c.args.list.now c.requires.factor c.requires.elems
