use Rattle.drinfeld_mod.proofs.Lowest.{one_characteristic, one_height}
use Rattle.drinfeld_mod.proofs.laws.one_height.Goals as goal

pub returns-clause-characteristic : goal.returns-clause-characteristic
returns-clause-characteristic g c = λ k phi p q m.
    one_characteristic _ _ _ _ _ (g.met.K.Field.laws k) (g.met.K.Base.Field.laws (g.K.FrobField.base_of k)) (g.met.K.FrobField.frob_laws k) phi m p q

pub returns-clause-height : goal.returns-clause-height
returns-clause-height g c = λ k phi h i m.
    one_height _ _ _ _ _ (g.met.K.Field.laws k) (g.met.K.Base.Field.laws (g.K.FrobField.base_of k)) (g.met.K.FrobField.frob_laws k) phi m h i
