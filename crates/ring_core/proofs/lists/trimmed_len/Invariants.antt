use Rattle.std.proofs.Common.{◌≡◌, take}
use Rattle.ring_core.specs.Coeffs.{trim}
use Rattle.ring_core.proofs.lists.trimmed_len.Given as goal

abbrev pub invariant-loop-i : goal.invariant-loop-i
invariant-loop-i g l = let r = g.K.Field.ops l.field in trim r (take l.i l.list) ≡ trim r l.list
