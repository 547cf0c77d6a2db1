use Rattle.std.proofs.lemmas.Bool.{and_parts}
use Rattle.drinfeld_mod.proofs.Actions.{image_add, image_mul}
use Rattle.drinfeld_mod.proofs.laws.images_act.Goals as goal

pub returns-clause-sum : goal.returns-clause-sum
returns-clause-sum g c = λ k phi a d m ca cd.
    image_add _ _ _ _ _ (g.met.K.Field.laws k) (g.met.K.Base.Field.laws (g.K.FrobField.base_of k)) (g.met.K.FrobField.frob_laws k)
    phi m.canonical a d (and_parts _ _ ca).0 (and_parts _ _ cd).0

pub returns-clause-product : goal.returns-clause-product
returns-clause-product g c = λ k phi a d m ca cd.
    image_mul _ _ _ _ _ (g.met.K.Field.laws k) (g.met.K.Base.Field.laws (g.K.FrobField.base_of k)) (g.met.K.FrobField.frob_laws k)
    phi m.canonical a d (and_parts _ _ ca).0 (and_parts _ _ cd).0
