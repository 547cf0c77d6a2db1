use Rattle.popov_basis.proofs.Exists.{standard_exists, relations_exist}
use Rattle.popov_basis.proofs.laws.some_standard_basis.Goals as goal

pub returns-clause-rows : goal.returns-clause-rows
returns-clause-rows g c = λ f w rows pos ri. standard_exists (g.F.Field.ops f) (g.F.Field.inv_of f) (g.met.F.Field.laws f) w pos rows ri

pub returns-clause-relations : goal.returns-clause-relations
returns-clause-relations g c = λ f w m pos mi. relations_exist (g.F.Field.ops f) (g.F.Field.inv_of f) (g.met.F.Field.laws f) w pos m mi
