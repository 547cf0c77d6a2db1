use Rattle.fq_linear.proofs.Solutions.{only_combination}
use Rattle.fq_linear.proofs.laws.one_combination.Goals as goal

pub returns-clause-rows : goal.returns-clause-rows
returns-clause-rows g c = λ f w rows x ri e s. only_combination (g.F.Field.ops f) (g.met.F.Field.laws f).ring w rows x ri e s

pub returns-clause-relations : goal.returns-clause-relations
returns-clause-relations g c =
    λ f rows basis x b xi relation.
    only_combination (g.F.Field.ops f) (g.met.F.Field.laws f).ring _ basis x b.shape b.echelon ((b.spans x xi).0 relation)
