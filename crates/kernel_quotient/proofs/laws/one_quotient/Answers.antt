use Rattle.kernel_quotient.proofs.Factors.{one_quotient}
use Rattle.kernel_quotient.proofs.laws.one_quotient.Goals as goal

pub returns : goal.returns
returns g c = λ k phi u psi chi m. one_quotient _ _ _ _ (g.met.K.Field.laws k) (g.met.K.FrobField.frob_laws k) phi m u psi chi
