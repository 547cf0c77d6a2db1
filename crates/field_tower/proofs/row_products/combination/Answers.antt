use Rattle.std.proofs.Common.{◌≡◌, ◌+◌, ◌-◌, ◌<◌, ◌≤◌, suc, length, take, get_or-take, refl, ◌∙◌, arith}
use Rattle.ring_core.specs.Coeffs.{coeff}
use Rattle.ring_core.proofs.Coefficients.{elem_read, elems_take}
use Rattle.linear_algebra.specs.Combines.{combined}
use Rattle.residue_field.specs.declared.TheConstants.{WIDTH}
use Rattle.field_tower.specs.steps.Images.{image_at, combined_images}
use Rattle.field_tower.proofs.Stored.{stored_from}
use Rattle.field_tower.proofs.AddedRows.{nothing_before, combined_in, combined_same}
use Rattle.field_tower.proofs.row_products.combination.Goals as goal

pub add_rows-requires-clause-factors : goal.add_rows-requires-clause-factors
add_rows-requires-clause-factors g c = elems_take (g.F.Field.ops c.args.field.now) c.args.n c.args.c.0 c.requires.coeffs

pub returns : goal.returns
unfolding combined_images
returns g c =
    let r = g.F.Field.ops c.args.field.now in
    let ring = (g.met.F.Field.laws c.args.field.now).ring in
    let n = c.args.n in
    let images = c.args.images.now in
    let start = c.args.start in
    let factors = take n c.args.c.0 in
    let out = c.add_rows.new.out in
    let positive = c.requires.positive in
    let room : n ≤ WIDTH = c.requires.room in
    let width : length out ≡ WIDTH = omega arith in
    let count : length factors ≡ n = omega arith in
    let row = c.requires.row in
    stored_from r (n - 1) out (combined_images r n images start c.args.c) width
    (λ i (l : i < suc (n - 1)).
    c.add_rows.ensures.added i (omega arith)
    ∙ nothing_before r ring _ (combined r (length factors) (coeff r factors) (λ j. coeff r (image_at images (start + j)).0) i) (c.zeros-places.ensures.values i)
    (combined_in r ring (length factors) (coeff r factors) (λ j. coeff r (image_at images (start + j)).0) i
    (elem_read r factors ring.closed.zero_in (elems_take r n c.args.c.0 c.requires.coeffs))
    (λ j m. elem_read r (image_at images (start + j)).0 ring.closed.zero_in (c.requires.images (start + j) (omega arith)) i))
    ∙ combined_same r ring n (length factors) (coeff r factors) (coeff r c.args.c.0) (λ j. coeff r (image_at images (start + j)).0)
    (λ j. coeff r (image_at images (start + j)).0) i count
    (λ j m. get_or-take n c.args.c.0 j r.zero m) (λ j m. refl))
    (λ i (l : suc (n - 1) ≤ i). c.add_rows.ensures.past i (omega arith) ∙ c.zeros-places.ensures.values i)
