use Rattle.std.proofs.Common.{◌≡◌, ◌*◌, ◌/◌, ◌%◌, length, ap, ap₂, ◌∙◌, arith}
use Rattle.ring_core.specs.Coeffs.{coeff, are_elems, first_values}
use Rattle.ring_core.proofs.Coefficients.{elems-first_values}
use Rattle.linear_algebra.specs.Linear.{row_at}
use Rattle.flat_modules.proofs.Lists.{flat_in}
use Rattle.central_coords.proofs.Places.{extension}
use Rattle.central_coords.proofs.Blocks.{read_back}
use Rattle.central_coords.proofs.polys.of_coords.Goals as goal

pub of_coordinates-requires : goal.of_coordinates-requires
of_coordinates-requires g c =
    let b = g.K.FrobField.base_of c.args.k.now in
    let base = g.K.Base.Field.ops b in
    let list = c.args.list.now in
    ap (are_elems base)
    (c.deref.ensures.value ∙ c.in_ok-x.ensures ∙ ap (λ y. first_values c.in-Some.size (λ p. coeff (g.K.Base.Field.ops y) (row_at list (p % length list)) (p / length list))) c.base.ensures)
    ∙ elems-first_values base c.in-Some.size _ (λ p low. flat_in base (g.met.K.Base.Field.laws b).ring list c.requires.polys (p % length list) (p / length list))

pub returns-clause-coords : goal.returns-clause-coords
returns-clause-coords g c =
    let k = c.args.k.now in
    let base = g.K.Base.Field.ops (g.K.FrobField.base_of k) in
    let o = extension (g.met.K.Field.laws k) (g.met.K.Base.Field.laws (g.K.FrobField.base_of k)) (g.met.K.FrobField.frob_laws k) in
    let list = c.args.list.now in
    let square : c.in-Some.size ≡ c.longest.result * length list = omega arith in
    read_back o list c.requires.count c.requires.polys c.in_ok-of_coordinates.field-0 c.in_ok-x.x.items c.longest.result c.longest.ensures
    (c.in_ok-x.ensures ∙ ap₂ (λ n y. first_values n (λ p. coeff (g.K.Base.Field.ops y) (row_at list (p % length list)) (p / length list))) square c.base.ensures)
    (λ t. c.in_ok-of_coordinates.ensures.coords t ∙ ap (λ v. coeff base v t) c.deref.ensures.value)
