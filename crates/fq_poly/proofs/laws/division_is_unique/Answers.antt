use Rattle.fq_poly.proofs.Uniqueness.{unique}
use Rattle.fq_poly.proofs.laws.division_is_unique.Goals as goal

pub returns : goal.returns
returns g c = λ k. unique _ _ (g.met.F.Field.laws k)
