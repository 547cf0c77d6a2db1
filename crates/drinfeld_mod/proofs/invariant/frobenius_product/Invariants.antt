use Rattle.std.proofs.Common.{◌≡◌, ◌*◌}
use Rattle.ring_core.specs.Ring.{IsElem}
use Rattle.drinfeld_mod.specs.steps.FrobProduct.{frob_product}
use Rattle.drinfeld_mod.proofs.invariant.frobenius_product.Given as goal

abbrev pub invariant-loop-i : goal.invariant-loop-i
invariant-loop-i g l =
    let r = g.K.Field.ops l.field in
    let f = g.K.FrobField.frob_ops l.field in
    record {
      elem : IsElem r l.product;
      value : l.product ≡ frob_product r f.frob l.fn.c l.step l._i;
      image_in : IsElem r l.image;
      image : l.image ≡ f.frob l.fn.c (l.step * l._i);
    }
