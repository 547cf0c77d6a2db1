-- The value of a relation of Frobenius, as the sum that the theory of relations speaks of.
use Rattle.std.proofs.Common.{◌≡◌, ℕ, suc, ◌<◌, ◌≤◌, Option, List, length, ◌∙◌, ap, ap₂}
use Rattle.ring_core.specs.Ring.{RingOps}
use Rattle.ring_core.specs.Field.{IsField, FrobOps, IsFrobField}
use Rattle.ring_core.specs.Coeffs.{coeff}
use Rattle.ring_core.specs.Twisted.{twisted_ops, list_mul}
use Rattle.ring_core.proofs.Carrier.{Element}
use Rattle.ring_core.proofs.Twist.{total_is, sum_same}
use Rattle.ring_core.proofs.ListRing.{frob_ring}
use Rattle.finite_ring.proofs.Powers.{power}
use Rattle.relation_theory.proofs.PowerRelations.{power_sum}
use Rattle.drinfeld_mod.specs.Image.{image}
use Rattle.motive_coords.proofs.Ores.{twisted}
use Rattle.motive_coords.proofs.MotiveValue.{power_is}
use Rattle.motive_coords.proofs.OverT.{acting, act_is, frob_of}
use Rattle.frobenius_rel.specs.Relation.{relation_value}

module _ {E B : Type 0} (r : RingOps E) (inv : E → Option E) (base : RingOps B) (binv : B → Option B) (f : FrobOps E B)
    (k : IsField r inv) (kb : IsField base binv) (l : IsFrobField r base f)
    (b : Element (twisted_ops r f.frob)) (d : ℕ) (degree : length b.0 ≡ suc d) (pos : 1 ≤ d) where
  pub value_is : (a : List (List B)) (c : ℕ → Element (twisted_ops base (λ c i. c))) → ((i : ℕ) → i < length a → (c i).0 ≡ coeff (twisted_ops base (λ c i. c)) a i)
      → (power_sum (twisted r inv base f k l) (acting r inv base binv f k kb l b d degree pos) (frob_of r inv base binv f k kb l b d degree pos) (length a) c).0 ≡ relation_value r base f b.0 a
  value_is a c same =
      let S = twisted r inv base f k l in
      let x = frob_of r inv base binv f k kb l b d degree pos in
      let act = acting r inv base binv f k kb l b d degree pos in
      total_is (twisted_ops r f.frob) (frob_ring r inv base f k l) (length a) (λ i. S.mul (act (c i)) (power S x i))
      ∙ sum_same (twisted_ops r f.frob) (frob_ring r inv base f k l) (length a) _ _ (λ i m.
      ap₂ (list_mul r f.frob) (act_is r inv base binv f k kb l b d degree pos (c i) ∙ ap (image r base f b.0) (same i m)) (power_is r inv base f k l x i))
