use Rattle.std.proofs.Common.{◌≡◌, ◌*◌, ap, ◌∙◌, arith}
use Rattle.field_tower.specs.steps.Codes.{code_ops, first_sums}
use Rattle.field_tower.proofs.FilledTables.{filled}
use Rattle.field_tower.proofs.tables.sum_table.Goals as goal

pub returns : goal.returns
returns c =
    let k = c.args.codes.now in
    let last : c.loop-a.a ≡ k.q = omega arith in
    filled k.q (code_ops k).add c.loop-a.table.items (c.loop-a.invariant ∙ ap (λ n. first_sums k (n * k.q)) last)
