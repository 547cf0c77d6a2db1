use Rattle.std.proofs.Common.{◌≡◌, ◌%◌, ap, ap₂, sym, ◌∙◌, arith}
use Rattle.ring_core.proofs.PowerLaws.{power-even, power-odd}
use Rattle.ring_core.proofs.powers.+power.Goals as goal

pub returns-then-k-eq0-2-clause-value : goal.returns-then-k-eq0-2-clause-value
returns-then-k-eq0-2-clause-value g t c =
    let r = g.R.Ring.ops c.args.r.now in
    let half = c.in_ok-half.ensures.value in
    c.in_ok-square.ensures.value ∙ ap₂ r.mul half half
    ∙ sym (power-even r (g.met.R.Ring.laws c.args.r.now) c.args.a.now c.args.k c.requires c.if-k-eq0-2.true)

pub returns-clause-value : goal.returns-clause-value
returns-clause-value g t c =
    let r = g.R.Ring.ops c.args.r.now in
    let a = c.args.a.now in
    let k = c.args.k in
    let half = c.in_ok-half.ensures.value in
    let odd : k % 2 ≡ 1 = omega arith in
    c.in_ok-mul.ensures.value ∙ ap (λ x. r.mul x a) (c.in_ok-square.ensures.value ∙ ap₂ r.mul half half)
    ∙ sym (power-odd r (g.met.R.Ring.laws c.args.r.now) a k c.requires odd)
