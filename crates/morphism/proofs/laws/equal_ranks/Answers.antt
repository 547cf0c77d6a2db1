use Rattle.morphism.proofs.Homomorphisms.{ranks_same}
use Rattle.morphism.proofs.laws.equal_ranks.Goals as goal

pub returns : goal.returns
returns g c = λ k. ranks_same (g.met.K.Field.laws k) (g.met.K.Base.Field.laws (g.K.FrobField.base_of k)) (g.met.K.FrobField.frob_laws k)
