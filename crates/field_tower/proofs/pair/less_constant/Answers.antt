use Rattle.std.proofs.Common.{ap, ◌∙◌}
use Rattle.field_tower.proofs.pair.less_constant.Goals as goal

pub returns-clause-value : goal.returns-clause-value
returns-clause-value g c =
    let t = g.A.Algebra.ops c.args.algebra.now in
    c.add.ensures.value ∙ ap (t.add c.args.x) (c.neg-negative.ensures.value ∙ ap t.neg c.constant.ensures.value)
