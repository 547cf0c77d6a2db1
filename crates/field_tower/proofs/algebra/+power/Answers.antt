use Rattle.std.proofs.Common.{◌≡◌, ◌%◌, sym, ap, ap₂, ◌∙◌, arith}
use Rattle.ring_core.specs.Powers.{power_of}
use Rattle.ring_core.proofs.PowerLaws.{power-even, power-odd}
use Rattle.field_tower.proofs.algebra.+power.Goals as goal

pub returns-then-k-eq0-clause-value : goal.returns-then-k-eq0-clause-value
returns-then-k-eq0-clause-value g t c =
    c.one.ensures.value ∙ ap (power_of (g.A.Algebra.ops c.args.algebra.now) c.args.a) (sym c.if-k-eq0.true)

pub returns-then-k-eq0-2-clause-value : goal.returns-then-k-eq0-2-clause-value
returns-then-k-eq0-2-clause-value g t c =
    let ops = g.A.Algebra.ops c.args.algebra.now in
    let ring = (g.met.A.Algebra.laws c.args.algebra.now).ring in
    c.mul-square.ensures.value ∙ ap₂ ops.mul c.power-half.ensures.value c.power-half.ensures.value
    ∙ sym (power-even ops ring c.args.a c.args.k c.requires c.if-k-eq0-2.true)

pub returns-else-k-eq0-2-clause-value : goal.returns-else-k-eq0-2-clause-value
returns-else-k-eq0-2-clause-value g t c =
    let ops = g.A.Algebra.ops c.args.algebra.now in
    let ring = (g.met.A.Algebra.laws c.args.algebra.now).ring in
    let odd : c.args.k % 2 ≡ 1 = omega arith in
    c.mul.ensures.value
    ∙ ap (λ x. ops.mul x c.args.a) (c.mul-square.ensures.value ∙ ap₂ ops.mul c.power-half.ensures.value c.power-half.ensures.value)
    ∙ sym (power-odd ops ring c.args.a c.args.k c.requires odd)

pub returns-then-k-eq1-clause-value : goal.returns-then-k-eq1-clause-value
returns-then-k-eq1-clause-value g t c =
    let ops = g.A.Algebra.ops c.args.algebra.now in
    let ring = (g.met.A.Algebra.laws c.args.algebra.now).ring in
    sym (ring.one_mul c.args.a c.requires) ∙ ap (power_of ops c.args.a) (sym c.if-k-eq1.true)
