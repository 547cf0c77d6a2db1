use Rattle.std.proofs.Common.{◌≡◌, true, drop}
use Rattle.ring_core.specs.Coeffs.{is_canonical}
use Rattle.drinfeld_mod.specs.Image.{image}
use Rattle.drinfeld_mod.proofs.image.image_at.Given as goal

abbrev pub invariant-loop-i : goal.invariant-loop-i
invariant-loop-i g l =
    let k = l.field in
    let r = g.K.Field.ops k in
    record {
      elem : is_canonical r l.sum ≡ true;
      value : l.sum ≡ image r (g.K.Base.Field.ops (g.K.FrobField.base_of k)) (g.K.FrobField.frob_ops k) l.x (drop l.i l.a);
    }
