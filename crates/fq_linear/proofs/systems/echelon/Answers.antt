use Rattle.std.proofs.Common.{◌≡◌, length, sym, subst, subst₂, arith}
use Rattle.fq_linear.specs.steps.Elimination.{IsLedTable}
use Rattle.fq_linear.proofs.Gathered.{gathered_as}
use Rattle.fq_linear.proofs.Results.{echelon_is}
use Rattle.fq_linear.proofs.systems.echelon.Goals as goal

pub gather-requires-clause-table : goal.gather-requires-clause-table
gather-requires-clause-table g c =
    let r = g.F.Field.ops c.args.f.now in
    let table = c.in_ok-table.ensures.table in
    subst₂ (λ d e. IsLedTable r (length d) d e) (sym c.deref.ensures.value) (sym c.deref-2.ensures.value)
    (subst (λ m. IsLedTable r m c.in_ok-table.table.index.items c.in_ok-table.table.cells.items) (sym table.index_len) table)

pub returns-clause-basis : goal.returns-clause-basis
returns-clause-basis g c =
    let f = c.args.f.now in
    let r = g.F.Field.ops f in
    let rows = c.args.rows.now in
    let index = c.in_ok-table.table.index.items in
    let cells = c.in_ok-table.table.cells.items in
    let wide : length index ≡ rows.width = omega (arith, c.in_ok-table.ensures.table.index_len) in
    echelon_is r (g.F.Field.inv_of f) (g.met.F.Field.laws f) rows.width rows.rows index cells c.requires c.in_ok-table.ensures _
    (gathered_as r rows.width rows.width index cells _ _ _ _ c.deref.ensures.value c.deref-2.ensures.value c.width.ensures wide c.in_ok-gather.ensures.rows)
