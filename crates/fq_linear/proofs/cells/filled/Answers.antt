use Rattle.std.proofs.Common.{[], ◌∷◌, ◌++◌, ◌∙◌, ap}
use Rattle.fq_linear.proofs.Places.{replicate_more}
use Rattle.fq_linear.proofs.cells.filled.Goals as goal

pub loop-i-preserved : goal.loop-i-preserved
loop-i-preserved g c =
    c.in_ok-push.ensures.items ∙ ap (λ u. u ++ c.args.value ∷ []) c.loop-i.invariant ∙ replicate_more c.loop-i.i c.args.value
