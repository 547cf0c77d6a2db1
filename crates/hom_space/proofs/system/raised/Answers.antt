use Rattle.std.proofs.Common.{[], ap, ◌∙◌}
use Rattle.ring_core.specs.Coeffs.{are_elems}
use Rattle.ring_core.proofs.Coefficients.{elems-first_values, elem_read}
use Rattle.central_coords.proofs.Rows.{values_after}
use Rattle.hom_space.proofs.system.raised.Goals as goal

pub loop-m-preserved : goal.loop-m-preserved
loop-m-preserved g c =
    values_after [] c.loop-m.m _ _ _ _ c.in_ok-push.ensures.items c.loop-m.invariant
    (c.frob.ensures.value ∙ ap (λ x. (g.K.FrobField.frob_ops c.args.k.now).frob x c.args.i) c.coeff_at-coefficient.ensures.value)

pub returns-clause-elems : goal.returns-clause-elems
returns-clause-elems g c =
    let k = c.args.k.now in
    let r = g.K.Field.ops k in
    ap (are_elems r) c.loop-m.invariant
    ∙ elems-first_values r c.loop-m.m _ (λ m low. (g.met.K.FrobField.frob_laws k).frob_in _ c.args.i (elem_read r c.args.phi.now (g.met.K.Field.laws k).ring.closed.zero_in c.requires m))
