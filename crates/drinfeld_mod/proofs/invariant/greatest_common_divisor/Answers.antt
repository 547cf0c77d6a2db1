use Rattle.std.proofs.Common.{◌≡◌, ◌+◌, ◌-◌, ◌<◌, ◌≤◌, subst, ⊎_elim, arith}
use Rattle.std.proofs.lemmas.Bool.{both_ways, cases_lt}
use Rattle.drinfeld_mod.specs.Invariant.{Divides}
use Rattle.drinfeld_mod.proofs.Norms.{divides_one, divisor_least}
use Rattle.drinfeld_mod.proofs.invariant.greatest_common_divisor.Goals as goal

pub loop-i-init : goal.loop-i-init
loop-i-init c = λ d more left right.
    let most = divisor_least d c.args.k c.requires left in
    omega (arith, most, more)

pub loop-i-preserved : goal.loop-i-preserved
loop-i-preserved c = λ d more left right.
    ⊎_elim
    (λ (higher : c.loop-i.i < d). c.loop-i.invariant d higher left right)
    (λ (most : d ≤ c.loop-i.i).
    let here : d ≡ c.loop-i.i - 1 + 1 = omega (arith, most, more) in
    both_ways c.divides_both.result c.if-divides_both.false
    (c.divides_both.ensures.1 (subst (λ n. Divides n c.args.k) here left, subst (λ n. Divides n c.args.n) here right)))
    (cases_lt c.loop-i.i d)

pub returns-then-divides_both-clause-divisor : goal.returns-then-divides_both-clause-divisor
returns-then-divides_both-clause-divisor c =
    let both = c.divides_both.ensures.0 c.if-divides_both.true in
    record {
      left = both.0;
      right = both.1;
      greatest = λ d left right.
          ⊎_elim (λ (higher : c.loop-i.i < d). absurd (c.loop-i.invariant d higher left right)) (λ (most : d ≤ c.loop-i.i). omega (arith, most)) (cases_lt c.loop-i.i d);
    }

pub unreachable-requires : goal.unreachable-requires
unreachable-requires c = c.loop-i.invariant 1 (omega arith) (divides_one c.args.k) (divides_one c.args.n)
