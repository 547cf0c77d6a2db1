use Rattle.ore_divide.proofs.Finish.{common_done}
use Rattle.ore_divide.proofs.common.common_from.Goals as goal

pub returns : goal.returns
returns g c =
    let k = c.args.k.now in
    let last = c.args.last in
    let link = c.requires.last in
    common_done _ _ _ _ (g.met.K.Field.laws k) (g.met.K.FrobField.frob_laws k) c.args.a.now c.args.b.now
    last.remainder.items last.left.items last.right.items link.0 link.1 c.requires.left c.requires.right c.requires.some c.requires.nonzero link.2 _ _ _ _
    (rw c.from_vec-divisor.ensures at c.in_ok-d.ensures) (rw (c.new-ring.ensures, c.from_vec-left.ensures) at c.in_ok-s.ensures.value) (rw (c.new-ring.ensures, c.from_vec-right.ensures) at c.in_ok-w.ensures.value)
