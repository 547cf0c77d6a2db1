use Rattle.std.proofs.Common.{◌≡◌, ◌+◌, ◌*◌, ◌<◌, length, get_or, sym, ◌∙◌, ap, arith}
use Rattle.std.proofs.lemmas.List.{get_or_read}
use Rattle.linear_algebra.specs.Linear.{row_at}
use Rattle.fq_linear.proofs.Tables.{length-table, length-row_cells, row_at-table, row_place}
use Rattle.fq_linear.proofs.rows.Rows.at.Goals as goal

pub cell_at-requires-clause-row : goal.cell_at-requires-clause-row
cell_at-requires-clause-row g c =
    let s = c.self.inside in
    let v = ap (λ t. length t.rows) c.self.view_is in
    let e = length-table s.width s.len s.cells.items in
    let same : length c.args.self.now.rows ≡ s.len = cc in
    omega (arith, same, c.requires.row)

pub returns-clause-within : goal.returns-clause-within
returns-clause-within g c =
    let s = c.self.inside in
    let rows = sym (ap (λ t. t.rows) c.self.view_is) in
    let wide = ap (λ t. t.width) c.self.view_is in
    let many : length c.args.self.now.rows ≡ s.len = ap length rows ∙ length-table s.width s.len s.cells.items in
    let i : c.args.i < s.len = omega (arith, many, c.requires.row) in
    let width : length (row_at c.args.self.now.rows c.args.i) ≡ s.width =
    ap (λ t. length (row_at t c.args.i)) rows ∙ ap length (row_at-table s.width s.len s.cells.items c.args.i i)
    ∙ length-row_cells s.width s.len s.cells.items c.args.i i (let full = c.self.invariant in omega (arith, full)) in
    omega (arith, width, wide, c.requires.place)

pub returns-clause-value : goal.returns-clause-value
returns-clause-value g c past =
    let s = c.self.inside in
    let rows = sym (ap (λ t. t.rows) c.self.view_is) in
    let wide = ap (λ t. t.width) c.self.view_is in
    let many : length c.args.self.now.rows ≡ s.len = ap length rows ∙ length-table s.width s.len s.cells.items in
    let i : c.args.i < s.len = omega (arith, many, c.requires.row) in
    let j : c.args.j < s.width = omega (arith, wide, c.requires.place) in
    get_or_read _ (c.args.i * s.width + c.args.j) _ c.cell_at.ensures.within c.cell_at.ensures.value past
    ∙ ap (λ u. get_or u (c.args.i * s.width + c.args.j) past) c.deref.ensures.value
    ∙ sym (ap (λ t. get_or (row_at t c.args.i) c.args.j past) rows
    ∙ ap (λ u. get_or u c.args.j past) (row_at-table s.width s.len s.cells.items c.args.i i)
    ∙ row_place s.width s.cells.items c.args.i c.args.j past j)
