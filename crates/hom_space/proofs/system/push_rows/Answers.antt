use Rattle.std.proofs.Common.{◌<◌, ◌*◌, [], length, refl, sym, ap, ap₂, ◌∙◌, arith}
use Rattle.std.proofs.lemmas.List.{append-nil, get_or_default}
use Rattle.ring_core.specs.Coeffs.{coeff, are_elems}
use Rattle.ring_core.proofs.FirstValues.{length-first_values}
use Rattle.linear_algebra.specs.Linear.{row_at}
use Rattle.central_coords.specs.Coordinates.{coordinate_row}
use Rattle.central_coords.proofs.Rows.{values_after}
use Rattle.hom_space.specs.steps.System.{image_list}
use Rattle.hom_space.proofs.system.push_rows.Goals as goal

pub loop-j-init : goal.loop-j-init
loop-j-init g c = record { width = refl; rows = sym (append-nil c.args.rows.now.rows) }

pub image-requires-clause-right : goal.image-requires-clause-right
image-requires-clause-right g c =
    let j = c.loop-j.j in
    let low : j < length c.args.turned.now = omega (arith, c.requires.each) in
    ap (are_elems (g.K.Field.ops c.args.k.now)) (c.as_slice.ensures ∙ c.index-turned-j.is ∙ get_or_default c.args.turned.now j c.index-turned-j.result [] low) ∙ c.requires.right j low

pub push-requires : goal.push-requires
push-requires g c =
    ap length (c.deref-in-loop-j.ensures.value ∙ c.in_ok-row.ensures) ∙ length-first_values (c.args.count * (g.K.FrobField.frob_ops c.args.k.now).degree) _
    ∙ sym (c.loop-j.invariant.width ∙ c.requires.width)

pub loop-j-preserved : goal.loop-j-preserved
loop-j-preserved g c =
    let k = c.args.k.now in
    let r = g.K.Field.ops k in
    let f = g.K.FrobField.frob_ops k in
    let turned = c.args.turned.now in
    let j = c.loop-j.j in
    let low : j < length turned = omega (arith, c.requires.each) in
    let read = c.as_slice.ensures ∙ c.index-turned-j.is ∙ get_or_default turned j c.index-turned-j.result [] low in
    record {
      width = c.push.ensures.width ∙ c.loop-j.invariant.width;
      rows =
          values_after c.args.rows.now.rows j (λ j. coordinate_row r f (c.args.count * f.degree) (image_list r c.args.i (coeff r c.args.elements.now j) c.args.raised.now (row_at turned j))) _ _ _ c.in_ok-push.ensures.rows c.loop-j.invariant.rows
          (c.deref-in-loop-j.ensures.value ∙ c.in_ok-row.ensures
          ∙ ap (coordinate_row r f (c.args.count * f.degree))
          (c.deref.ensures.value ∙ c.in_ok-coefficients.ensures.value ∙ ap₂ (λ z v. image_list r c.args.i z c.args.raised.now v) c.coeff_at-z.ensures.value read));
    }
