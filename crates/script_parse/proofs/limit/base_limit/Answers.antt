use Rattle.std.proofs.Common.{rules, ◌≡◌, ℕ, ◌^◌, ◌<◌, Some, ap, sym, nat_lt, true, if◌then◌else◌, None, arith}
use Rattle.std.proofs.lemmas.Bool.Decides.{nat_tests}
use Rattle.script_parse.specs.declared.size.SizeKind.TheVariants as size
use Rattle.script_parse.specs.Limits.{over_limit}
use Rattle.script_parse.proofs.limit.base_limit.Goals as goal

over : (limit n : ℕ) → limit < n → Some size.Base ≡ over_limit limit n size.Base
over limit n h = let e : nat_lt limit n ≡ true = grind (arith, nat_tests) in sym (ap (λ b. if b then Some size.Base else None) e)

pub returns-in-None : goal.returns-in-None
returns-in-None c =
    let fits : c.args.limits.now.base < 4294967296 = search rules in
    let large : c.args.p ^ c.args.s < 4294967296 → ⊥ = c.in-None.ensures in
    let more : c.args.limits.now.base < c.args.p ^ c.args.s = grind (arith, large, fits) in
    over c.args.limits.now.base (c.args.p ^ c.args.s) more
