use Rattle.std.proofs.Common.{◌≡◌, ◌+◌, suc, length, ap, ap₂, sym, ◌∙◌, arith}
use Rattle.ring_core.specs.Coeffs.{coeff, is_canonical}
use Rattle.linear_algebra.specs.Combines.{combined}
use Rattle.linear_algebra.specs.Linear.{row_at, entry}
use Rattle.linear_algebra.proofs.RowLists.{row_len, row_elems, rows_at}
use Rattle.fq_poly.specs.Poly.{poly_ops}
use Rattle.flat_reduce.proofs.Reading.{read_row}
use Rattle.poly_reduce.proofs.Views.{row_canonical, rows_canonical}
use Rattle.poly_reduce.proofs.matrix.product_entry.Goals as goal

pub entry_at-requires-clause-place : goal.entry_at-requires-clause-place
entry_at-requires-clause-place g c =
    let p = poly_ops (g.F.Field.ops c.args.f.now) in
    let b = c.args.b.now in
    let k = c.loop-k.k in
    let len = row_len p c.args.w (row_at b k) (rows_at p c.args.w b c.requires.rows k (omega arith)) in
    omega (arith, len, c.requires.place)

pub mul-requires-clause-left : goal.mul-requires-clause-left
mul-requires-clause-left g c =
    let r = g.F.Field.ops c.args.f.now in
    let p = poly_ops r in
    let row = c.args.row.now in
    let k = c.loop-k.k in
    let len = row_len p (length c.args.b.now) row c.requires.row in
    let read = read_row row k c.index-row-k.result c.index-row-k.result (omega (arith, len)) c.index-row-k.is in
    ap (λ h. is_canonical (g.F.Field.ops h) c.index-row-k.result) c.new-ring.ensures ∙ ap (is_canonical r) read ∙ row_canonical r row (row_elems p (length c.args.b.now) row c.requires.row) k

pub mul-requires-clause-right : goal.mul-requires-clause-right
mul-requires-clause-right g c =
    let r = g.F.Field.ops c.args.f.now in
    ap (λ h. is_canonical (g.F.Field.ops h) c.entry_at.result.now) c.new-ring.ensures ∙ ap (is_canonical r) c.entry_at.ensures ∙ rows_canonical r c.args.w c.args.b.now c.requires.rows c.loop-k.k c.args.j

pub loop-k-preserved : goal.loop-k-preserved
loop-k-preserved g c =
    let r = g.F.Field.ops c.args.f.now in
    let p = poly_ops r in
    let row = c.args.row.now in
    let b = c.args.b.now in
    let k = c.loop-k.k in
    let len = row_len p (length b) row c.requires.row in
    let read = read_row row k c.index-row-k.result c.index-row-k.result (omega (arith, len)) c.index-row-k.is in
    let one_more : suc k ≡ k + 1 = omega arith in
    let term = ap (λ h. (poly_ops (g.F.Field.ops h)).mul c.index-row-k.result c.entry_at.result.now) c.new-ring.ensures ∙ ap₂ p.mul read c.entry_at.ensures in
    record {
      is =
          c.in_ok-sum-2.ensures.value
          ∙ ap (λ h. (poly_ops (g.F.Field.ops h)).add c.loop-k.sum c.in_ok-term.term) c.new-ring.ensures
          ∙ ap₂ p.add c.loop-k.invariant.is (c.in_ok-term.ensures.value ∙ term)
          ∙ ap (λ m. combined p m (coeff p row) (entry p b) c.args.j) one_more;
      elem = ap (λ h. is_canonical (g.F.Field.ops h) c.in_ok-sum-2.sum) (sym c.new-ring.ensures) ∙ c.in_ok-sum-2.ensures.elem;
    }
