use Rattle.fq_poly.proofs.Tops.{degrees}
use Rattle.fq_poly.proofs.laws.degrees_add.Goals as goal

pub returns : goal.returns
returns g c = λ k. degrees _ _ (g.met.F.Field.laws k)
