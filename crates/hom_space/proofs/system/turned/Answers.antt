use Rattle.std.proofs.Common.{[], ap, ap₂, ◌∙◌}
use Rattle.ring_core.specs.Coeffs.{are_elems}
use Rattle.ring_core.proofs.Coefficients.{elems-first_values, elem_read}
use Rattle.central_coords.proofs.Rows.{values_after}
use Rattle.hom_space.proofs.system.turned.Goals as goal

pub loop-m-preserved : goal.loop-m-preserved
loop-m-preserved g c =
    values_after [] c.loop-m.m _ _ _ _ c.in_ok-push.ensures.items c.loop-m.invariant
    (c.mul.ensures.value ∙ ap₂ (g.K.Field.ops c.args.k.now).mul c.coeff_at-coefficient.ensures.value c.frob-raised.ensures.value)

pub returns-clause-elems : goal.returns-clause-elems
returns-clause-elems g c =
    let k = c.args.k.now in
    let r = g.K.Field.ops k in
    let closed = (g.met.K.Field.laws k).ring.closed in
    ap (are_elems r) c.loop-m.invariant
    ∙ elems-first_values r c.loop-m.m _
    (λ m low. closed.mul_in _ _ (elem_read r c.args.psi.now closed.zero_in c.requires.elems m) ((g.met.K.FrobField.frob_laws k).frob_in c.args.z m c.requires.factor))
