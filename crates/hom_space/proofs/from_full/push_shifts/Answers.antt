use Rattle.std.proofs.Common.{◌*◌, ◌+◌, length, sym, ap, ◌∙◌}
use Rattle.ring_core.proofs.FirstValues.{length-first_values}
use Rattle.central_coords.proofs.Rows.{values_after}
use Rattle.hom_space.specs.steps.Shifts.{shifted_row}
use Rattle.hom_space.proofs.from_full.push_shifts.Goals as goal

pub push-requires : goal.push-requires
push-requires g c =
    ap length (c.deref.ensures.value ∙ c.in_ok-row.ensures) ∙ length-first_values ((c.args.d + 1) * (g.K.FrobField.frob_ops c.args.k.now).degree) _
    ∙ sym (c.loop-e.invariant.width ∙ c.requires.width)

pub loop-e-preserved : goal.loop-e-preserved
loop-e-preserved g c =
    let k = c.args.k.now in
    let value = shifted_row (g.K.Field.ops k) (g.K.Base.Field.ops (g.K.FrobField.base_of k)) (g.K.FrobField.frob_ops k) c.args.d c.args.u.now in
    record {
      width = c.push.ensures.width ∙ c.loop-e.invariant.width;
      rows = values_after c.args.rows.now.rows c.loop-e.e value _ _ _ c.in_ok-push.ensures.rows c.loop-e.invariant.rows (c.deref.ensures.value ∙ c.in_ok-row.ensures);
    }
