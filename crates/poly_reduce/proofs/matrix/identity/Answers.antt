use Rattle.std.proofs.Common.{ℕ, [], length, ap, ◌∙◌, arith}
use Rattle.ring_core.specs.Coeffs.{first_values}
use Rattle.ring_core.proofs.FirstValues.{length-first_values, at-first_values}
use Rattle.linear_algebra.specs.Linear.{row_at}
use Rattle.fq_poly.specs.Poly.{poly_ops}
use Rattle.flat_modules.specs.Flat.{unit_at}
use Rattle.poly_reduce.proofs.matrix.identity.Goals as goal

pub from_vec-requires : goal.from_vec-requires
from_vec-requires g c =
    let p = poly_ops (g.F.Field.ops c.args.f.now) in
    let n = c.args.n in
    let rows = c.in_ok-unit_rows.field-0.items in
    let is = c.in_ok-unit_rows.ensures in
    let row = λ (i : ℕ). first_values n (unit_at p i) in
    let count = ap length is ∙ length-first_values n row in
    λ i l. ap (λ u. length (row_at u i)) is ∙ ap length (at-first_values n row i [] (omega (arith, l, count))) ∙ length-first_values n (unit_at p i)
