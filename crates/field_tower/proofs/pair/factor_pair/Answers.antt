use Rattle.std.proofs.Common.{◌≡◌, suc, ◌+◌, ◌≤◌, sym, ap, ap₂, ◌∙◌, arith}
use Rattle.finite_ring.specs.Finite.{root_product}
use Rattle.field_tower.proofs.ConstantValues.{code_elem}
use Rattle.field_tower.proofs.PairValues.{one_nonzero, factor_nonzero, all_factors}
use Rattle.field_tower.proofs.pair.factor_pair.Goals as goal

pub loop-c-init : goal.loop-c-init
loop-c-init g c =
    let algebra = c.args.algebra.now in
    let r = g.A.Constants.Field.ops (g.A.Algebra.constants_of algebra) in
    let one = c.one-product.ensures.value in
    record {
      elem = c.one-product.ensures.elem;
      value = one;
      nonzero = λ e.
          one_nonzero r c.args.q c.requires.constants (g.A.Algebra.ops algebra) (g.A.Algebra.coords_of algebra) (g.met.A.Algebra.laws algebra) (sym one ∙ e);
    }

pub less_constant-factor-requires-clause-constant : goal.less_constant-factor-requires-clause-constant
less_constant-factor-requires-clause-constant g c =
    let r = g.A.Constants.Field.ops (g.A.Algebra.constants_of c.args.algebra.now) in
    code_elem r c.args.q c.requires.constants c.loop-c.c c.loop-c-test.true

pub returns-in_default : goal.returns-in_default
returns-in_default g c =
    let algebra = c.args.algebra.now in
    let r = g.A.Constants.Field.ops (g.A.Algebra.constants_of algebra) in
    let codes = c.requires.constants in
    record {
      left_in = c.loop-c.invariant.elem;
      right_in = c.less_constant-factor.ensures.elem;
      left_nonzero = c.loop-c.invariant.nonzero;
      right_nonzero = λ e.
          factor_nonzero r c.args.q codes (g.A.Algebra.ops algebra) (g.A.Algebra.coords_of algebra) (g.met.A.Algebra.laws algebra) c.args.x c.loop-c.c
          c.requires.elem c.requires.above (code_elem r c.args.q codes c.loop-c.c c.loop-c-test.true) (sym c.less_constant-factor.ensures.value ∙ e);
      product_zero = c.in_default.ensures;
    }

pub loop-c-preserved : goal.loop-c-preserved
loop-c-preserved g c =
    let algebra = c.args.algebra.now in
    let t = g.A.Algebra.ops algebra in
    let k = c.loop-c.c in
    let next : suc k ≡ k + 1 = omega arith in
    record {
      elem = c.in-Some.ensures.elem;
      value =
          c.in-Some.ensures.value ∙ ap₂ t.mul c.loop-c.invariant.value c.less_constant-factor.ensures.value
          ∙ ap (λ m. root_product t (g.A.Algebra.coords_of algebra).embed m c.args.x) next;
      nonzero = c.in-Some.ensures.nonzero;
    }

pub unreachable-requires : goal.unreachable-requires
unreachable-requires g c =
    let algebra = c.args.algebra.now in
    let r = g.A.Constants.Field.ops (g.A.Algebra.constants_of algebra) in
    let t = g.A.Algebra.ops algebra in
    let coords = g.A.Algebra.coords_of algebra in
    let low : c.loop-c.c ≤ c.args.q = c.loop-c.auto.c-end in
    let high : c.args.q ≤ c.loop-c.c = c.loop-c-test.false in
    let same : c.loop-c.c ≡ c.args.q = omega arith in
    c.loop-c.invariant.nonzero
    (c.loop-c.invariant.value ∙ ap (λ m. root_product t coords.embed m c.args.x) same
    ∙ all_factors r c.args.q c.requires.constants t coords (g.met.A.Algebra.laws algebra) c.args.x c.requires.elem c.requires.power)
