use Rattle.ore_divide.proofs.Unique.{common_multiples}
use Rattle.ore_divide.proofs.laws.common_multiples_divide.Goals as goal

pub returns : goal.returns
returns g c = λ k. common_multiples _ _ _ _ (g.met.K.Field.laws k) (g.met.K.FrobField.frob_laws k)
