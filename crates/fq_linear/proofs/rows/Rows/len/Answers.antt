use Rattle.std.proofs.Common.{length, ap}
use Rattle.fq_linear.proofs.Tables.{length-table}
use Rattle.fq_linear.proofs.rows.Rows.len.Goals as goal

pub returns : goal.returns
returns g c =
    let s = c.self.inside in
    let v = ap (λ t. length t.rows) c.self.view_is in
    let e = length-table s.width s.len s.cells.items in
    cc
