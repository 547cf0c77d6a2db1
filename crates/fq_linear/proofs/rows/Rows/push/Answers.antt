use Rattle.std.proofs.Common.{◌≡◌, [], ◌∷◌, ◌++◌, length, ◌∙◌, ap, ap₂}
use Rattle.fq_linear.specs.Table.{table_rows}
use Rattle.fq_linear.proofs.Tables.{rows_pushed}
use Rattle.fq_linear.proofs.rows.Rows.push.Goals as goal

pub returns-clause-rows : goal.returns-clause-rows
returns-clause-rows g c =
    let s = c.self.inside in
    let v = ap (λ t. t.rows) c.self.view_is in
    let w = ap (λ t. t.width) c.self.view_is in
    let fits : length c.args.row.now ≡ s.width = cc in
    let old : table_rows s.width s.len s.cells.items ≡ c.args.self.now.rows = cc in
    ap₂ (table_rows s.width) c.in-Some.ensures.1 c.in_ok-extend_from_slice.ensures.items
    ∙ rows_pushed s.width s.len s.cells.items c.args.row.now c.self.invariant fits
    ∙ ap (λ t. t ++ c.args.row.now ∷ []) old
