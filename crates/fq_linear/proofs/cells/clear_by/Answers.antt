use Rattle.std.proofs.Common.{refl, ◌∙◌, ap}
use Rattle.ring_core.specs.Coeffs.{coeff}
use Rattle.ring_core.proofs.Coefficients.{elem_read}
use Rattle.fq_linear.proofs.Extents.{cleared_by_ranges}
use Rattle.fq_linear.proofs.cells.clear_by.Goals as goal

pub returns-clause-cleared : goal.returns-clause-cleared
returns-clause-cleared g c =
    let r = g.F.Field.ops c.args.f.now in
    let ring = (g.met.F.Field.laws c.args.f.now).ring in
    cleared_by_ranges r ring c.args.l c.args.extent.low c.lesser-end.result c.greater-high.result c.args.extent c.neg-c.result
    (coeff r c.args.row.now) (coeff r c.args.out.now) (coeff r c.add_range.new.out) (coeff r c.add_range-2.new.out)
    (elem_read r c.args.out.now ring.closed.zero_in c.requires.out) c.neg-c.ensures.elem (c.neg-c.ensures.value ∙ ap r.neg c.coeff_at.ensures.value)
    c.requires.extent c.requires.above refl c.lesser-end.ensures.one c.greater-high.ensures.right c.greater-high.ensures.one
    c.add_range.ensures.inside c.add_range.ensures.outside c.add_range-2.ensures.inside c.add_range-2.ensures.outside
