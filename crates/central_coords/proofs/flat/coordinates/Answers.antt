use Rattle.std.proofs.Common.{◌++◌, sym, ap₂, ◌∙◌}
use Rattle.ring_core.specs.Coeffs.{first_values}
use Rattle.central_coords.proofs.Places.{extension}
use Rattle.central_coords.proofs.Rows.{row_more}
use Rattle.central_coords.proofs.flat.coordinates.Goals as goal

pub loop-i-preserved : goal.loop-i-preserved
loop-i-preserved g c =
    let k = c.args.k.now in
    let f = g.K.FrobField.frob_ops k in
    let o = extension (g.met.K.Field.laws k) (g.met.K.Base.Field.laws (g.K.FrobField.base_of k)) (g.met.K.FrobField.frob_laws k) in
    c.in_ok-push_coordinates.ensures ∙ ap₂ (λ t x. t ++ first_values f.degree (f.coord x)) c.loop-i.invariant c.coeff_at-coefficient.ensures.value ∙ sym (row_more o c.args.u.now c.loop-i.i)
