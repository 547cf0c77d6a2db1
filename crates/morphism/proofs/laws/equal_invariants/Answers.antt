use Rattle.morphism.proofs.Isomorphic.{invariants_same}
use Rattle.morphism.proofs.laws.equal_invariants.Goals as goal

pub returns : goal.returns
returns g c = λ k. invariants_same (g.met.K.Field.laws k) (g.met.K.Base.Field.laws (g.K.FrobField.base_of k)) (g.met.K.FrobField.frob_laws k)
