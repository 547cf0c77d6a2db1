use Rattle.ring_core.specs.Ring.{IsElem}
use Rattle.benchmarks.proofs.fields.inverses.Given as goal

abbrev pub invariant-loop-i : goal.invariant-loop-i
invariant-loop-i g l = IsElem (g.K.Field.ops l.k) l.x
