use Rattle.ring_core.proofs.ListRing.{frob_ring}
use Rattle.ring_core.proofs.Twist.{frob_twist}
use Rattle.ring_core.proofs.Degrees.{degrees_add, frob_no_divisors}
use Rattle.ore_poly.proofs.laws.twisted_product.Goals as goal

pub returns : goal.returns
returns g c = λ k.
    let r = g.K.Field.ops k in
    let inv = g.K.Field.inv_of k in
    let f = g.K.FrobField.frob_ops k in
    let field = g.met.K.Field.laws k in
    let laws = g.met.K.FrobField.frob_laws k in
    let ring = frob_ring r inv _ f field laws in
    record {
      assoc = ring.mul_assoc;
      one_left = ring.one_mul;
      one_right = ring.mul_one;
      left_sum = ring.add_mul;
      right_sum = ring.mul_add;
      degrees = degrees_add r field.ring f.frob (frob_twist r inv _ f field laws) (frob_no_divisors r inv _ f field laws);
    }
