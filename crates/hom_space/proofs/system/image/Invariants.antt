use Rattle.std.proofs.Common.{◌≡◌, ◌++◌, true}
use Rattle.ring_core.specs.Coeffs.{coeff, are_elems, first_values}
use Rattle.hom_space.proofs.system.image.Given as goal

abbrev pub invariant-loop-m : goal.invariant-loop-m
invariant-loop-m g l =
    let r = g.K.Field.ops l.k in
    record {
      value : l.list.items ≡ first_values l.i (λ e. r.zero) ++ first_values l.m (λ e. r.add (r.mul l.z (coeff r l.raised e)) (r.neg (coeff r l.turned e)));
      elems : are_elems r l.list.items ≡ true;
    }
