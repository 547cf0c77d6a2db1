use Rattle.std.proofs.Common.{◌+◌, ◌≤◌, length, take, get_or-take, arith}
use Rattle.ring_core.specs.Coeffs.{coeff}
use Rattle.ring_core.proofs.Coefficients.{elem_read, elems_take}
use Rattle.field_tower.specs.steps.Images.{image_at}
use Rattle.field_tower.proofs.AddedRows.{added_none, added_more}
use Rattle.field_tower.proofs.row_products.add_rows.Goals as goal

pub loop-i-init : goal.loop-i-init
loop-i-init g c =
    let r = g.F.Field.ops c.args.field.now in
    added_none r (g.met.F.Field.laws c.args.field.now).ring c.args.n (coeff r c.args.factors.now)
    (λ j. coeff r (image_at c.args.rows.now (c.args.start + j)).0) c.args.out.now c.requires.out

pub loop-i-preserved : goal.loop-i-preserved
loop-i-preserved g c =
    let r = g.F.Field.ops c.args.field.now in
    let ring = (g.met.F.Field.laws c.args.field.now).ring in
    let n = c.args.n in
    let start = c.args.start in
    let factors = c.args.factors.now in
    let rows = c.args.rows.now in
    let i = c.loop-i.i in
    let image = image_at rows (start + i) in
    let short : length (take n image.0) ≤ n = omega arith in
    added_more r ring n (coeff r factors) (λ j. coeff r (image_at rows (start + j)).0) c.args.out.now c.requires.out
    i c.coeff_at.result (take n image.0) c.loop-i.out c.add_row.new.out c.loop-i.invariant
    (elem_read r factors ring.closed.zero_in c.requires.factors)
    (λ j k l. elem_read r (image_at rows (start + j)).0 ring.closed.zero_in (c.requires.rows (start + j) (omega arith)) k)
    c.coeff_at.ensures.value short (λ k l. get_or-take n image.0 k r.zero l) c.add_row.ensures.elems c.add_row.ensures.added

pub add_row-requires-clause-row : goal.add_row-requires-clause-row
add_row-requires-clause-row g c =
    elems_take (g.F.Field.ops c.args.field.now) c.args.n (image_at c.args.rows.now (c.args.start + c.loop-i.i)).0
    (c.requires.rows (c.args.start + c.loop-i.i) (omega arith))
