use Rattle.std.proofs.Common.{sym, ◌∙◌}
use Rattle.field_tower.proofs.PairValues.{one_nonzero, zero_is_low}
use Rattle.field_tower.proofs.pair.power_pair.Goals as goal

pub loop-i-init : goal.loop-i-init
loop-i-init g c =
    let algebra = c.args.algebra.now in
    let r = g.A.Constants.Field.ops (g.A.Algebra.constants_of algebra) in
    let one = c.one-power.ensures.value in
    record {
      elem = c.one-power.ensures.elem;
      value = one;
      nonzero = λ e.
          one_nonzero r c.args.q c.requires.constants (g.A.Algebra.ops algebra) (g.A.Algebra.coords_of algebra) (g.met.A.Algebra.laws algebra) (sym one ∙ e);
    }

pub returns-in_default : goal.returns-in_default
returns-in_default g c =
    let algebra = c.args.algebra.now in
    let r = g.A.Constants.Field.ops (g.A.Algebra.constants_of algebra) in
    record {
      left_in = c.loop-i.invariant.elem;
      right_in = c.requires.elem;
      left_nonzero = c.loop-i.invariant.nonzero;
      right_nonzero = λ e.
          c.requires.above
          (zero_is_low r c.args.q c.requires.constants (g.A.Algebra.ops algebra) (g.A.Algebra.coords_of algebra) (g.met.A.Algebra.laws algebra) c.args.x e);
      product_zero = c.in_default.ensures;
    }
