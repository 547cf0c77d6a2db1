use Rattle.std.proofs.Common.{◌≡◌, ◌+◌, ◌*◌, [], length, ap, ◌∙◌, arith}
use Rattle.ring_core.specs.Coeffs.{coeff, are_elems, first_values}
use Rattle.ring_core.proofs.FirstValues.{length-first_values}
use Rattle.central_coords.proofs.Places.{extension}
use Rattle.central_coords.proofs.Rows.{values_after, part_in}
use Rattle.central_coords.proofs.flat.element_at.Goals as goal

pub loop-j-preserved : goal.loop-j-preserved
loop-j-preserved g c =
    let f = g.K.FrobField.frob_ops c.args.k.now in
    let base = g.K.Base.Field.ops (g.K.FrobField.base_of c.args.k.now) in
    let times : c.args.i * c.degree-n.result ≡ c.args.i * f.degree = ap (λ n. c.args.i * n) c.degree-n.ensures in
    let place : c.in-Some-checked_add.place ≡ c.args.i * f.degree + c.loop-j.j = omega (arith, times) in
    let read = rw c.base.ensures at c.coeff_at.ensures.value in
    values_after [] c.loop-j.j (λ j. coeff base c.args.x.now (c.args.i * f.degree + j)) _ _ _ c.in_ok-push.ensures.items c.loop-j.invariant (read ∙ ap (coeff base c.args.x.now) place)

pub of_coords-requires-clause-elems : goal.of_coords-requires-clause-elems
of_coords-requires-clause-elems g c =
    let k = c.args.k.now in
    let f = g.K.FrobField.frob_ops k in
    let base = g.K.Base.Field.ops (g.K.FrobField.base_of k) in
    let o = extension (g.met.K.Field.laws k) (g.met.K.Base.Field.laws (g.K.FrobField.base_of k)) (g.met.K.FrobField.frob_laws k) in
    let last : c.loop-j.j ≡ f.degree = omega (arith, c.degree-n.ensures) in
    ap (are_elems base) (c.deref.ensures.value ∙ c.loop-j.invariant ∙ ap (λ m. first_values m (λ j. coeff base c.args.x.now (c.args.i * f.degree + j))) last) ∙ part_in o c.args.x.now c.requires c.args.i

pub of_coords-requires-clause-places : goal.of_coords-requires-clause-places
of_coords-requires-clause-places g c = ap length (c.deref.ensures.value ∙ c.loop-j.invariant) ∙ length-first_values c.loop-j.j _ ∙ omega (arith, c.degree-n.ensures)

pub returns : goal.returns
returns g c =
    let f = g.K.FrobField.frob_ops c.args.k.now in
    let base = g.K.Base.Field.ops (g.K.FrobField.base_of c.args.k.now) in
    let last : c.loop-j.j ≡ f.degree = omega (arith, c.degree-n.ensures) in
    c.of_coords.ensures.value ∙ ap f.of_coords (c.deref.ensures.value ∙ c.loop-j.invariant ∙ ap (λ m. first_values m (λ j. coeff base c.args.x.now (c.args.i * f.degree + j))) last)
