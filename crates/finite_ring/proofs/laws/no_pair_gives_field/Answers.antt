use Rattle.finite_ring.proofs.Counted.{counted_of}
use Rattle.finite_ring.proofs.FieldOf.{finite_field}
use Rattle.finite_ring.proofs.laws.no_pair_gives_field.Goals as goal

pub returns : goal.returns
returns g c = λ r count ring comm n ne no_pair. finite_field r ring comm count (counted_of r ring count n) ne no_pair
