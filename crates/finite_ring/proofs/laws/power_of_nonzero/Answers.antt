use Rattle.finite_ring.proofs.FieldOf.{power_of_count}
use Rattle.finite_ring.proofs.laws.power_of_nonzero.Goals as goal

pub returns : goal.returns
returns g c = λ r inv count x field n p nx. power_of_count r inv field count n x p nx
