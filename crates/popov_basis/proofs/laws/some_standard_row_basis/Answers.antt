use Rattle.popov_basis.proofs.Exists.{row_basis_exists}
use Rattle.popov_basis.proofs.laws.some_standard_row_basis.Goals as goal

pub returns : goal.returns
returns g c = λ f w m pos shape. row_basis_exists (g.F.Field.ops f) (g.F.Field.inv_of f) (g.met.F.Field.laws f) w pos m shape
