use Rattle.std.proofs.Common.{◌%◌, eq-eqb}
use Rattle.std.proofs.lemmas.Bool.{eqb-true}
use Rattle.drinfeld_mod.proofs.Norms.{divides_exactly, no_rest}
use Rattle.drinfeld_mod.proofs.invariant.divides_both.Goals as goal

pub returns-then-k-e-eq0 : goal.returns-then-k-e-eq0
returns-then-k-e-eq0 c =
    let e = c.args.e in
    let n = c.args.n in (
      λ yes. (divides_exactly e c.args.k c.if-k-e-eq0.true, divides_exactly e n (eqb-true (n % e) 0 yes)),
      λ both. eq-eqb (n % e) 0 (no_rest e n both.1),
    )

pub returns-else-k-e-eq0 : goal.returns-else-k-e-eq0
returns-else-k-e-eq0 c =
    let e = c.args.e in
    let k = c.args.k in (
      λ yes. absurd (c.if-k-e-eq0.false (eqb-true (k % e) 0 yes)),
      λ both. eq-eqb (k % e) 0 (no_rest e k both.0),
    )
