use Rattle.twist_theory.proofs.Onto.{frob_onto}
use Rattle.twist_theory.proofs.laws.frobenius_is_onto.Goals as goal

pub returns : goal.returns
returns g c = λ k x i p. frob_onto (g.K.Field.ops k) (g.K.Base.Field.ops (g.K.FrobField.base_of k)) (g.K.FrobField.frob_ops k) (g.met.K.FrobField.frob_laws k) x i p
