use Rattle.field_tower.proofs.KindValues.{count, codes_monic, codes_count, codes_are}
use Rattle.field_tower.proofs.base.BaseField.codes.Goals as goal

pub invariant_of-result-2-clause-monic : goal.invariant_of-result-2-clause-monic
invariant_of-result-2-clause-monic c = codes_monic c.self.inside c.args.self.now c.self.view_is _ c.deref.ensures.value

pub invariant_of-result-2-clause-count : goal.invariant_of-result-2-clause-count
invariant_of-result-2-clause-count c = codes_count c.self.inside c.args.self.now c.self.view_is _ c.deref.ensures.value

pub returns-clause-ops : goal.returns-clause-ops
returns-clause-ops c = codes_are c.self.inside c.args.self.now c.self.view_is _ c.deref.ensures.value

pub returns-clause-count : goal.returns-clause-count
returns-clause-count c = count c.self.inside c.args.self.now c.self.view_is
