use Rattle.field_tower.proofs.BaseValues.{inverse_none}
use Rattle.field_tower.proofs.base.BaseFieldField.inv.Goals as goal

pub returns-then-a-eq0-clause-value : goal.returns-then-a-eq0-clause-value
returns-then-a-eq0-clause-value c = inverse_none c.args.self.now c.args.a c.if-a-eq0.true
