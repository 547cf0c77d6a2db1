use Rattle.ore_divide.proofs.Finish.{multiple_done}
use Rattle.ore_divide.proofs.common.multiple_from.Goals as goal

pub returns : goal.returns
returns g c =
    let k = c.args.k.now in
    let last = c.args.last in
    let link = c.requires.last in
    multiple_done _ _ _ _ (g.met.K.Field.laws k) (g.met.K.FrobField.frob_laws k) c.args.a.now c.args.b.now
    link.0 link.1 link.2 last.left.items last.right.items c.requires.left c.requires.right c.requires.some c.requires.nonzero link.3 _ _ _ _ _ _
    (rw (c.new-ring.ensures, c.from_vec-left.ensures) at c.in_ok-product.ensures.value) c.in_ok-m.ensures (rw (c.new-ring.ensures, c.from_vec-left.ensures) at c.in_ok-s.ensures.value)
    (rw (c.new-ring.ensures, c.from_vec-right.ensures) at c.in_ok-minus.ensures.value) (rw c.new-ring.ensures at c.in_ok-w.ensures.value)
