use Rattle.std.proofs.Common.{sym, ◌∙◌}
use Rattle.ring_core.proofs.Coefficients.{elems_read_more, elems_miss}
use Rattle.ring_core.proofs.lists.all_elems.Goals as goal

pub returns-then-not-is_elem : goal.returns-then-not-is_elem
returns-then-not-is_elem g c =
    sym (elems_miss (g.K.Field.ops c.args.field.now) c.args.list.now c.loop-c.c-index _ c.loop-c-test.true c.c-item.is (sym c.is_elem.ensures ∙ c.if-not-is_elem.true))

pub loop-c-preserved : goal.loop-c-preserved
loop-c-preserved g c =
    elems_read_more (g.K.Field.ops c.args.field.now) c.args.list.now c.loop-c.c-index _ c.loop-c-test.true c.c-item.is c.loop-c.invariant (sym c.is_elem.ensures ∙ c.if-not-is_elem.false)
