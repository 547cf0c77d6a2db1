use Rattle.std.proofs.Common.{IfSome, subst}
use Rattle.field_tower.specs.steps.Codes.{code_ops}
use Rattle.field_tower.specs.steps.Tables.{IsRest}
use Rattle.field_tower.proofs.SumRows.{part_fits, entry_fits, entry_is}
use Rattle.field_tower.proofs.tables.sum_entry.Goals as goal

pub bounds-table-place : goal.bounds-table-place
bounds-table-place c =
    let k = c.args.codes.now in
    let is = subst (λ o. IfSome o (IsRest (code_ops k) c.args.a c.args.place)) c.in-Some.is c.requires.rest in
    part_fits k c.args.a c.args.b c.args.place c.in-Some.rest c.args.table.now c.requires.left c.requires.right c.requires.before is

pub bounds-table-rest : goal.bounds-table-rest
bounds-table-rest c =
    let k = c.args.codes.now in
    let is = subst (λ o. IfSome o (IsRest (code_ops k) c.args.a c.args.place)) c.in-Some.is c.requires.rest in
    entry_fits k c.args.a c.args.b c.args.place c.in-Some.rest c.args.table.now c.requires.left c.requires.right c.requires.before is

pub returns : goal.returns
returns c =
    let k = c.args.codes.now in
    let is = subst (λ o. IfSome o (IsRest (code_ops k) c.args.a c.args.place)) c.in-Some.is c.requires.rest in
    entry_is k c.args.a c.args.b c.args.place c.in-Some.rest c.args.table.now c.requires.left c.requires.right c.requires.before is
