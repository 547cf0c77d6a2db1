use Rattle.std.proofs.Common.{ap, ◌∙◌, sym}
use Rattle.flat_modules.specs.Flat.{are_flat}
use Rattle.poly_reduce.proofs.Views.{polys_flat}
use Rattle.tests_reduction.proofs.matrices.checked_flat.Goals as goal

pub returns-then-all_polys : goal.returns-then-all_polys
returns-then-all_polys g c =
    let r = g.F.Field.ops c.args.f.now in
    ap (are_flat r) (sym c.as_slice.ensures) ∙ polys_flat r c.as_slice.result.now (sym c.all_polys.ensures ∙ c.if-all_polys.true)
