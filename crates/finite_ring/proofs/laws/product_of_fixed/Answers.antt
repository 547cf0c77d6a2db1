use Rattle.finite_ring.proofs.FieldOf.{product_of_fixed}
use Rattle.finite_ring.proofs.laws.product_of_fixed.Goals as goal

pub returns : goal.returns
returns g c =
    λ k q points x large points_in distinct fixed p.
    product_of_fixed _ _ (g.met.K.Field.laws k) q large points points_in distinct fixed x p
