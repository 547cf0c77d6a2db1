use Rattle.drinfeld_mod.proofs.Lowest.{exists}
use Rattle.drinfeld_mod.proofs.laws.height_exists.Goals as goal

pub returns : goal.returns
returns g c = λ k.
    exists _ _ _ _ _ (g.met.K.Field.laws k) (g.met.K.Base.Field.laws (g.K.FrobField.base_of k)) (g.met.K.FrobField.frob_laws k)
