use Rattle.fq_linear.proofs.Solutions.{same_dependence}
use Rattle.fq_linear.proofs.laws.one_dependence.Goals as goal

pub returns : goal.returns
returns g c =
    λ f w rows k l x y ri sx sy.
    same_dependence (g.F.Field.ops f) (g.F.Field.inv_of f) (g.met.F.Field.laws f) w rows ri k l x y sx sy
