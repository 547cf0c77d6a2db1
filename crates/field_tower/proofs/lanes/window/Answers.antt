use Rattle.std.proofs.Common.{slice_index_or, ap, ◌∙◌}
use Rattle.std.proofs.lemmas.Simd.{get_or-chunk}
use Rattle.field_tower.proofs.lanes.window.Goals as goal

pub returns-clause-lanes : goal.returns-clause-lanes
returns-clause-lanes c = λ j l.
    ap (λ v. slice_index_or v j 0) (c.doubled.ensures ∙ c.loaded.ensures) ∙ get_or-chunk c.args.i 16 c.args.list.now j 0 l
