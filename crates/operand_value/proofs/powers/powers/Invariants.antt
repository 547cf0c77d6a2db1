use Rattle.std.proofs.Common.{◌≡◌}
use Rattle.ring_core.specs.Ring.{IsElem}
use Rattle.ring_core.specs.Coeffs.{first_values}
use Rattle.ring_core.specs.Powers.{power_of}
use Rattle.operand_value.proofs.powers.powers.Given as goal

abbrev pub invariant-loop-i : goal.invariant-loop-i
invariant-loop-i g l =
    let r = g.F.Field.ops l.field in
    record {
      elem : IsElem r l.next;
      next : l.next ≡ power_of r l.x l.i;
      value : l.powers.items ≡ first_values l.i (power_of r l.x);
    }
