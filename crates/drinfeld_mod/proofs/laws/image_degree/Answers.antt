use Rattle.drinfeld_mod.proofs.Heights.{image_length}
use Rattle.drinfeld_mod.proofs.laws.image_degree.Goals as goal

pub returns : goal.returns
returns g c = λ k phi a m.
    image_length _ _ _ _ _ (g.met.K.Field.laws k) (g.met.K.Base.Field.laws (g.K.FrobField.base_of k)) (g.met.K.FrobField.frob_laws k) phi m a
