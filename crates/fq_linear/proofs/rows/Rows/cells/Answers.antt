use Rattle.std.proofs.Common.{◌*◌, length, sym, ◌∙◌, ap, ap₂}
use Rattle.fq_linear.specs.Table.{table_rows}
use Rattle.fq_linear.proofs.Tables.{length-table}
use Rattle.fq_linear.proofs.rows.Rows.cells.Goals as goal

pub returns-clause-len : goal.returns-clause-len
returns-clause-len g c =
    let s = c.self.inside in
    let n = sym (length-table s.width s.len s.cells.items) ∙ ap (λ t. length t.rows) c.self.view_is in
    let w = ap (λ t. t.width) c.self.view_is in
    ap length c.deref.ensures.value ∙ c.self.invariant ∙ ap₂ ◌*◌ n w

pub returns-clause-rows : goal.returns-clause-rows
returns-clause-rows g c =
    let s = c.self.inside in
    let n = sym (length-table s.width s.len s.cells.items) ∙ ap (λ t. length t.rows) c.self.view_is in
    let w = ap (λ t. t.width) c.self.view_is in
    ap (table_rows c.args.self.now.width (length c.args.self.now.rows)) c.deref.ensures.value
    ∙ sym (ap₂ (λ w n. table_rows w n s.cells.items) w n)
    ∙ ap (λ t. t.rows) c.self.view_is
