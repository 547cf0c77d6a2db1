use Rattle.std.proofs.Common.{sym, ◌∙◌, arith}
use Rattle.std.proofs.lemmas.Bool.{eqb-false}
use Rattle.ore_divide.proofs.euclid.last_relation.Goals as goal

pub returns-in_ok-next_link : goal.returns-in_ok-next_link
returns-in_ok-next_link g c =
    let after = c.in_ok-last.last.after in
    let nonzero = eqb-false _ _ (sym c.is_empty.ensures ∙ c.if-is_empty.false) in
    let ok = after.remainder.ok.0 in
    (after.remainder.items, after.left.items, after.right.items, c.in_ok-last.ensures.next (omega (arith, nonzero, ok)) _ _ _ c.in_ok-next_link.ensures)
