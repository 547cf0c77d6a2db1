use Rattle.std.proofs.Common.{◌≡◌, suc, ◌+◌, ◌*◌, ◌%◌, ◌^◌, sym, ap, ◌∙◌, arith, pow-suc}
use Rattle.std.proofs.lemmas.Nat.{mul-mod_first}
use Rattle.field_tower.proofs.prime.power.Goals as goal

pub loop-i-preserved : goal.loop-i-preserved
loop-i-preserved c =
    let a = c.args.a in
    let p = c.args.p in
    let i = c.loop-i._i in
    let next : i + 1 ≡ suc i = omega arith in
    ap (λ x. (x * a) % p) c.loop-i.invariant ∙ mul-mod_first (a ^ i) a p
    ∙ ap (λ x. x % p) (sym (ap (λ k. a ^ k) next ∙ pow-suc a i))
