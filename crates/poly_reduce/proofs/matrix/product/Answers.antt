use Rattle.std.proofs.Common.{ℕ, [], length, ap, ap₂, sym, ◌∙◌, arith}
use Rattle.ring_core.specs.Coeffs.{coeff}
use Rattle.ring_core.proofs.FirstValues.{length-first_values, at-first_values}
use Rattle.linear_algebra.specs.Combines.{combined}
use Rattle.linear_algebra.specs.Linear.{row_at, entry}
use Rattle.fq_poly.specs.Poly.{poly_ops}
use Rattle.poly_reduce.specs.Matrices.{row_times, product}
use Rattle.poly_reduce.proofs.matrix.product.Goals as goal

pub from_vec-requires : goal.from_vec-requires
from_vec-requires g c =
    let p = poly_ops (g.F.Field.ops c.args.f.now) in
    let a = c.as_slice.result.now in
    let b = c.as_slice-2.result.now in
    let w = c.width.result in
    let is = c.in_ok-rows.ensures in
    let row = λ (i : ℕ). row_times p w (row_at a i) b in
    let count = ap length is ∙ length-first_values (length a) row in
    λ i l.
    ap (λ u. length (row_at u i)) is ∙ ap length (at-first_values (length a) row i [] (omega (arith, l, count)))
    ∙ length-first_values w (combined p (length b) (coeff p (row_at a i)) (entry p b)) ∙ c.width.ensures ∙ sym c.width-2.ensures

pub returns-clause-rows : goal.returns-clause-rows
returns-clause-rows g c =
    let p = poly_ops (g.F.Field.ops c.args.f.now) in
    let a = c.as_slice.result.now in
    c.from_vec.ensures.rows ∙ c.in_ok-rows.ensures
    ∙ ap (λ w. product p w a c.as_slice-2.result.now) c.width.ensures
    ∙ ap₂ (product p c.args.b.now.width) c.as_slice.ensures c.as_slice-2.ensures
