use Rattle.fq_linear.proofs.Solutions.{same_solution}
use Rattle.fq_linear.proofs.laws.one_solution.Goals as goal

pub returns : goal.returns
returns g c = λ f w rows target x y ri sx sy. same_solution (g.F.Field.ops f) (g.F.Field.inv_of f) (g.met.F.Field.laws f) w rows ri target x y sx sy
