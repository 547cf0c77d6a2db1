use Rattle.std.proofs.Common.{◌+◌, length, sym, subst, subst₂}
use Rattle.linear_algebra.specs.Linear.{entry}
use Rattle.fq_linear.specs.steps.Elimination.{IsLedTable, IsEliminated, augmented}
use Rattle.fq_linear.proofs.Gathered.{gathered_as}
use Rattle.fq_linear.proofs.Results.{kernel_is}
use Rattle.fq_linear.proofs.systems.kernel.Goals as goal

pub gather-requires-clause-table : goal.gather-requires-clause-table
gather-requires-clause-table g c =
    let r = g.F.Field.ops c.args.f.now in
    let table = c.in_ok-table.ensures.table in
    subst₂ (λ d e. IsLedTable r (length d) d e) (sym c.deref.ensures.value) (sym c.deref-2.ensures.value)
    (subst (λ m. IsLedTable r m c.in_ok-table.table.index.items c.in_ok-table.table.cells.items) (sym table.index_len) table)

pub returns-clause-basis : goal.returns-clause-basis
returns-clause-basis g c =
    let f = c.args.f.now in
    let r = g.F.Field.ops f in
    let rows = c.args.rows.now in
    let n = length rows.rows in
    let index = c.in_ok-table.table.index.items in
    let cells = c.in_ok-table.table.cells.items in
    let t = subst (λ m. IsEliminated r (m + rows.width) n (augmented r m (entry r rows.rows)) index cells) c.len-n.ensures c.in_ok-table.ensures in
    kernel_is r (g.F.Field.inv_of f) (g.met.F.Field.laws f) rows.width rows.rows index cells c.requires t _
    (gathered_as r (n + rows.width) n index cells _ _ _ _ c.deref.ensures.value c.deref-2.ensures.value c.len-n.ensures t.table.index_len c.in_ok-gather.ensures.rows)
