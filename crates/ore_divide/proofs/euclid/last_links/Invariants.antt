use Rattle.std.proofs.Common.{◌≡◌, length, true}
use Rattle.ring_core.specs.Coeffs.{is_canonical}
use Rattle.ore_divide.proofs.Links.{Links}
use Rattle.ore_divide.proofs.euclid.last_links.Given as goal

abbrev pub invariant-loop-before : goal.invariant-loop-before
invariant-loop-before g l =
    let k = l.field in
    let r = g.K.Field.ops k in
    record {
      left : is_canonical r l.a ≡ true;
      right : is_canonical r l.b ≡ true;
      links : Links r (g.K.Field.inv_of k) _ (g.K.FrobField.frob_ops k) (g.met.K.Field.laws k) (g.met.K.FrobField.frob_laws k) l.a l.b
          l.before.remainder.items l.after.remainder.items l.before.left.items l.after.left.items l.before.right.items l.after.right.items left right;
    }

abbrev pub decreases-loop-before : goal.decreases-loop-before
decreases-loop-before g l = length l.after.remainder.items
