use Rattle.fq_linear.proofs.Solutions.{same_basis}
use Rattle.fq_linear.proofs.laws.one_basis.Goals as goal

pub returns : goal.returns
returns g c = λ f w a b ai bi ea eb e. same_basis (g.F.Field.ops f) (g.F.Field.inv_of f) (g.met.F.Field.laws f) w a b ai bi ea eb e
