use Rattle.std.proofs.Common.{◌<◌, length, ap, ◌∙◌, arith}
use Rattle.statement_operands.proofs.ListCount.{values_count}
use Rattle.statement_operands.proofs.operands.listed_module.Goals as goal

pub unreachable-requires : goal.unreachable-requires
unreachable-requires c =
    let made = rw c.in-Err-TooLarge.field-0-is at c.in-Err-TooLarge.ensures in
    let long : 9 < length c.deref.result.now = made.1 in
    let count = ap length (c.deref.ensures.value ∙ c.in_ok-values.ensures.value) ∙ values_count c.args.t.now c.args.list.now in
    let few = c.requires in
    omega (arith, long, count, few)
