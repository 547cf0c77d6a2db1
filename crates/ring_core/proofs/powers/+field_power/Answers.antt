use Rattle.std.proofs.Common.{◌≡◌, ◌%◌, ap, ap₂, sym, ◌∙◌, arith}
use Rattle.ring_core.proofs.PowerLaws.{power-even, power-odd}
use Rattle.ring_core.proofs.powers.+field_power.Goals as goal

pub returns-then-k-eq0-2-clause-value : goal.returns-then-k-eq0-2-clause-value
returns-then-k-eq0-2-clause-value g t c =
    let r = g.F.Field.ops c.args.field.now in
    let half = c.field_power-half.ensures.value in
    c.mul-square.ensures.value ∙ ap₂ r.mul half half
    ∙ sym (power-even r (g.met.F.Field.laws c.args.field.now).ring c.args.a c.args.k c.requires c.if-k-eq0-2.true)

pub returns-else-k-eq0-2-clause-value : goal.returns-else-k-eq0-2-clause-value
returns-else-k-eq0-2-clause-value g t c =
    let r = g.F.Field.ops c.args.field.now in
    let a = c.args.a in
    let k = c.args.k in
    let half = c.field_power-half.ensures.value in
    let odd : k % 2 ≡ 1 = omega arith in
    c.mul.ensures.value ∙ ap (λ x. r.mul x a) (c.mul-square.ensures.value ∙ ap₂ r.mul half half)
    ∙ sym (power-odd r (g.met.F.Field.laws c.args.field.now).ring a k c.requires odd)
