use Rattle.std.proofs.Common.{◌≡◌, ◌+◌, ◌*◌, ◌/◌, [], length, sym, ap, ap₂, subst, ◌∙◌, arith}
use Rattle.std.proofs.lemmas.Bool.{and_parts}
use Rattle.ring_core.specs.Coeffs.{are_elems, first_values, list_of}
use Rattle.central_coords.specs.Coordinates.{coordinate}
use Rattle.central_coords.specs.Central.{AreCentralCoordinates}
use Rattle.central_coords.proofs.Places.{extension}
use Rattle.central_coords.proofs.Rows.{values_after}
use Rattle.central_coords.proofs.Blocks.{made_polys}
use Rattle.central_coords.proofs.polys.coords.Goals as goal

pub loop-place-preserved : goal.loop-place-preserved
loop-place-preserved g c =
    let r = g.K.Field.ops c.args.k.now in
    let f = g.K.FrobField.frob_ops c.args.k.now in
    let base = g.K.Base.Field.ops (g.K.FrobField.base_of c.args.k.now) in
    let p = c.loop-place.place in
    values_after [] p _ _ _ _ c.in_ok-push.ensures.items c.loop-place.invariant
    (c.in_ok-strided.ensures ∙ ap₂ (λ v n. list_of base c.in-Some.count (λ m. coordinate r f v (m * (n * n) + p))) c.as_slice.ensures c.degree-n.ensures)

pub returns : goal.returns
returns g c =
    let k = c.args.k.now in
    let r = g.K.Field.ops k in
    let f = g.K.FrobField.frob_ops k in
    let base = g.K.Base.Field.ops (g.K.FrobField.base_of k) in
    let o = extension (g.met.K.Field.laws k) (g.met.K.Base.Field.laws (g.K.FrobField.base_of k)) (g.met.K.FrobField.frob_laws k) in
    let u = c.args.u.now in
    let count : c.in-Some.count ≡ length u / f.degree + 1 = omega (arith, ap₂ (λ a b. a / b + 1) c.len.ensures c.degree-n.ensures) in
    let all : c.loop-place.place ≡ f.degree * f.degree = omega (arith, ap (λ n. n * n) c.degree-n.ensures) in
    subst (AreCentralCoordinates r base f u)
    (sym (c.loop-place.invariant ∙ ap₂ (λ m n. first_values m (λ p. list_of base n (λ m. coordinate r f u (m * (f.degree * f.degree) + p)))) all count))
    (made_polys o u (and_parts (are_elems r u) _ c.requires).0)
