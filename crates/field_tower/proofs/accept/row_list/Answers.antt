use Rattle.std.proofs.Common.{◌∷◌, ◌++◌, [], sym, ap₂, ◌∙◌}
use Rattle.std.proofs.lemmas.List.{take_more}
use Rattle.linear_algebra.specs.Linear.{row_at}
use Rattle.field_tower.proofs.accept.row_list.Goals as goal

pub loop-k-preserved : goal.loop-k-preserved
loop-k-preserved c =
    let row = row_at c.args.rows.now.rows c.args.i in
    let k = c.loop-k.k in
    c.in_ok-push.ensures.items ∙ ap₂ (λ u x. u ++ x ∷ []) c.loop-k.invariant (c.at.ensures.value 0)
    ∙ sym (take_more row k 0 c.at.ensures.within)
