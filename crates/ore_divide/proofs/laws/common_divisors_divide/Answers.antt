use Rattle.ore_divide.proofs.Unique.{common_divisors}
use Rattle.ore_divide.proofs.laws.common_divisors_divide.Goals as goal

pub returns : goal.returns
returns g c = λ k. common_divisors _ _ _ _ (g.met.K.Field.laws k) (g.met.K.FrobField.frob_laws k)
