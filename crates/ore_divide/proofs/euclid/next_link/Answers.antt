use Rattle.std.proofs.Common.{length, ap, ◌∙◌, arith}
use Rattle.ring_core.specs.Coeffs.{trim}
use Rattle.ring_core.proofs.RowSteps.{whole_written}
use Rattle.ore_divide.proofs.Links.{link_done}
use Rattle.ore_divide.proofs.euclid.next_link.Goals as goal

pub returns : goal.returns
returns g c =
    let k = c.args.field.now in
    let r = g.K.Field.ops k in
    let u = c.args.before.remainder in
    let left = c.in_ok-left.left in
    let right = c.in_ok-right.right in
    link_done r _ _ _ (g.met.K.Field.laws k) (g.met.K.FrobField.frob_laws k) _ _ _ _ _ _ left.items right.items _ _ _ _ _ _
    c.requires.first c.requires.second c.requires.left c.requires.right c.reduce_rows.ensures.rest c.reduce_rows.ensures.left c.reduce_rows.ensures.right c.requires.nonzero
    (rw c.deref-2.ensures.value at c.reduce_rows.ensures.cleared) c.in_ok-left.ensures.value c.in_ok-right.ensures.value
    (rw (c.deref_mut.ensures.value, c.deref_mut-2.ensures.value, c.deref_mut-3.ensures.value, c.deref-2.ensures.value, c.deref-3.ensures.value, c.deref-4.ensures.value) at c.reduce_rows.ensures.reduced)
    (c.trimmed.ensures.value
    ∙ ap (trim r) (whole_written u.len c.reduce_rows.new.rest u.items (omega (arith, u.ok.0, ap length c.deref_mut.ensures.value)) (omega (arith, u.ok.0))))
    (c.trimmed-2.ensures.value
    ∙ ap (trim r) (whole_written left.len c.reduce_rows.new.left left.items (omega (arith, left.ok.0, ap length c.deref_mut-2.ensures.value)) (omega (arith, left.ok.0))))
    (c.trimmed-3.ensures.value
    ∙ ap (trim r) (whole_written right.len c.reduce_rows.new.right right.items (omega (arith, right.ok.0, ap length c.deref_mut-3.ensures.value)) (omega (arith, right.ok.0))))
