use Rattle.std.proofs.Common.{◌≡◌, ◌+◌, ◌*◌, ◌/◌, ◌%◌, [], ap, ◌∙◌, arith}
use Rattle.ring_core.specs.Coeffs.{coeff, are_elems}
use Rattle.ring_core.proofs.Coefficients.{elems-first_values}
use Rattle.central_coords.specs.Coordinates.{coordinate}
use Rattle.central_coords.proofs.Places.{extension, coordinate_in}
use Rattle.central_coords.proofs.Rows.{values_after}
use Rattle.central_coords.proofs.polys.strided.Goals as goal

pub loop-m-preserved : goal.loop-m-preserved
loop-m-preserved g c =
    let r = g.K.Field.ops c.args.k.now in
    let f = g.K.FrobField.frob_ops c.args.k.now in
    let at = c.in-Some-checked_add.c in
    let place : at ≡ c.loop-m.m * c.args.w + c.args.place = omega arith in
    values_after [] c.loop-m.m (λ m. coordinate r f c.args.u.now (m * c.args.w + c.args.place)) _ _ _ c.in_ok-push.ensures.items c.loop-m.invariant
    (c.coord.ensures.value ∙ ap (λ x. f.coord x (at % c.degree-n.result)) c.coeff_at-coefficient.ensures.value
    ∙ ap (λ n. f.coord (coeff r c.args.u.now (at / n)) (at % n)) c.degree-n.ensures ∙ ap (coordinate r f c.args.u.now) place)

pub trimmed-requires : goal.trimmed-requires
trimmed-requires g c =
    let k = c.args.k.now in
    let o = extension (g.met.K.Field.laws k) (g.met.K.Base.Field.laws (g.K.FrobField.base_of k)) (g.met.K.FrobField.frob_laws k) in
    ap (λ y. are_elems (g.K.Base.Field.ops y) c.loop-m.list.items) c.base.ensures ∙ ap (are_elems (g.K.Base.Field.ops (g.K.FrobField.base_of k))) c.loop-m.invariant
    ∙ elems-first_values (g.K.Base.Field.ops (g.K.FrobField.base_of k)) c.loop-m.m _ (λ m low. coordinate_in o c.args.u.now c.requires (m * c.args.w + c.args.place))
