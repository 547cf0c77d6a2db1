use Rattle.twist_theory.proofs.FewRoots.{few_values}
use Rattle.twist_theory.proofs.laws.few_roots.Goals as goal

pub returns : goal.returns
returns g c =
    λ k u points cu some points_in distinct roots.
    few_values (g.K.Field.ops k) (g.K.Field.inv_of k) (g.met.K.Field.laws k) u cu some points points_in distinct roots
