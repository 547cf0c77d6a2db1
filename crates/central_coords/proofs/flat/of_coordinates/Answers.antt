use Rattle.std.proofs.Common.{◌≡◌, ◌+◌, ◌/◌, [], length, ap, ◌∙◌, arith}
use Rattle.ring_core.specs.Coeffs.{are_elems, trim}
use Rattle.central_coords.specs.Coordinates.{coordinate}
use Rattle.central_coords.proofs.Places.{extension}
use Rattle.central_coords.proofs.Rows.{values_after, members, members_in, members_coordinate}
use Rattle.central_coords.proofs.flat.of_coordinates.Goals as goal

pub loop-i-preserved : goal.loop-i-preserved
loop-i-preserved g c = values_after [] c.loop-i.i _ _ _ _ c.in_ok-push.ensures.items c.loop-i.invariant c.in_ok-element_at.ensures

pub trimmed-requires : goal.trimmed-requires
trimmed-requires g c =
    let k = c.args.k.now in
    let o = extension (g.met.K.Field.laws k) (g.met.K.Base.Field.laws (g.K.FrobField.base_of k)) (g.met.K.FrobField.frob_laws k) in
    ap (are_elems (g.K.Field.ops k)) c.loop-i.invariant ∙ members_in o c.args.x.now c.requires c.loop-i.i

pub returns-clause-coords : goal.returns-clause-coords
returns-clause-coords g c =
    let k = c.args.k.now in
    let r = g.K.Field.ops k in
    let f = g.K.FrobField.frob_ops k in
    let o = extension (g.met.K.Field.laws k) (g.met.K.Base.Field.laws (g.K.FrobField.base_of k)) (g.met.K.FrobField.frob_laws k) in
    let x = c.args.x.now in
    let all : c.loop-i.i ≡ length x / f.degree + 1 = omega (arith, ap (λ n. length x / n + 1) c.degree.ensures) in
    let made = c.from_vec.ensures ∙ c.trimmed.ensures.value ∙ ap (trim r) (c.loop-i.invariant ∙ ap (members o x c.requires) all) in
    λ t. ap (λ u. coordinate r f u t) made ∙ members_coordinate o x c.requires t
