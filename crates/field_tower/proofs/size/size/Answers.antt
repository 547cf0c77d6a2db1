use Rattle.std.proofs.Common.{arith}
use Rattle.field_tower.specs.declared.size.TheConstants.{CODES}
use Rattle.field_tower.proofs.CodeDigits.{power_passes}
use Rattle.field_tower.proofs.size.size.Goals as goal

pub returns-then-p-q : goal.returns-then-p-q
returns-then-p-q c =
    let before = c.loop-i.invariant in
    power_passes c.args.p c.args.s c.loop-i._i c.loop-i.q CODES before.positive (omega arith) before.value c.loop-i-test.true c.if-p-q.true
