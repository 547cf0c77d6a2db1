use Rattle.std.proofs.Common.{[], ap, ◌∙◌}
use Rattle.ring_core.specs.Coeffs.{are_elems}
use Rattle.ring_core.proofs.Coefficients.{elems-first_values}
use Rattle.central_coords.proofs.Places.{extension, unit_in}
use Rattle.central_coords.proofs.Rows.{values_after}
use Rattle.hom_space.proofs.system.units.Goals as goal

pub loop-j-preserved : goal.loop-j-preserved
loop-j-preserved g c = values_after [] c.loop-j.j _ _ _ _ c.in_ok-push.ensures.items c.loop-j.invariant c.in_ok-unit.ensures.value

pub returns-clause-elems : goal.returns-clause-elems
returns-clause-elems g c =
    let k = c.args.k.now in
    let o = extension (g.met.K.Field.laws k) (g.met.K.Base.Field.laws (g.K.FrobField.base_of k)) (g.met.K.FrobField.frob_laws k) in
    ap (are_elems (g.K.Field.ops k)) c.loop-j.invariant ∙ elems-first_values (g.K.Field.ops k) c.loop-j.j _ (λ j low. unit_in o j)
