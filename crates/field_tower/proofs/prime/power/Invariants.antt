use Rattle.std.proofs.Common.{◌≡◌, ◌^◌, ◌%◌}
use Rattle.field_tower.proofs.prime.power.Given as goal

abbrev pub invariant-loop-i : goal.invariant-loop-i
invariant-loop-i l = l.result ≡ (l.a ^ l._i) % l.p
