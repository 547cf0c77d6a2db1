use Rattle.std.proofs.Common.{nat_lt, w32, ap, ◌∙◌}
use Rattle.std.proofs.lemmas.Simd.{tops_compared}
use lib.Lanes.{sel_l}
use Rattle.field_tower.proofs.LaneValues.{sel_least}
use Rattle.field_tower.proofs.lanes.least.Goals as goal

pub returns : goal.returns
returns c = ap (λ ms. sel_l ms c.args.x c.args.y) (tops_compared w32 nat_lt c.args.x c.args.y) ∙ sel_least c.args.x c.args.y
