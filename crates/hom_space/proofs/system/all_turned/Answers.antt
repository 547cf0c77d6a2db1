use Rattle.std.proofs.Common.{[], ap, ◌∙◌}
use Rattle.hom_space.specs.steps.System.{turned_list}
use Rattle.central_coords.proofs.Rows.{values_after}
use Rattle.hom_space.proofs.system.all_turned.Goals as goal

pub loop-j-preserved : goal.loop-j-preserved
loop-j-preserved g c =
    let k = c.args.k.now in
    values_after [] c.loop-j.j _ _ _ _ c.in_ok-push.ensures.items c.loop-j.invariant
    (c.from_vec.ensures ∙ c.in_ok-turned.ensures.value ∙ ap (turned_list (g.K.Field.ops k) (g.K.FrobField.frob_ops k) c.args.psi.now c.args.s) c.coeff_at-z.ensures.value)
