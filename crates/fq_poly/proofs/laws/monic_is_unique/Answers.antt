use Rattle.fq_poly.proofs.Tops.{one_monic}
use Rattle.fq_poly.proofs.laws.monic_is_unique.Goals as goal

pub returns : goal.returns
returns g c = λ k. one_monic _ _ (g.met.F.Field.laws k)
