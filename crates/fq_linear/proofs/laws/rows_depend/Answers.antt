use Rattle.linear_algebra.proofs.Dependent.{rows_depend}
use Rattle.fq_linear.proofs.laws.rows_depend.Goals as goal

pub returns : goal.returns
returns g c = λ f w rows ri l e. rows_depend (g.F.Field.ops f) (g.F.Field.inv_of f) (g.met.F.Field.laws f) w rows ri l e
