use Rattle.std.proofs.Common.{◌∙◌}
use Rattle.field_tower.proofs.TopValues.{letter-inside}
use Rattle.field_tower.proofs.tower.Tower.letter.Goals as goal

pub returns : goal.returns
returns c = c.letter.ensures ∙ letter-inside _ c.args.self.now c.self.view_is _ c.deref.ensures.value
