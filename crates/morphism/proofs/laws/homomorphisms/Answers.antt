use Rattle.morphism.proofs.Homomorphisms.{hom_sum, hom_product, hom_image, hom_central}
use Rattle.morphism.proofs.laws.homomorphisms.Goals as goal

pub returns-clause-sum : goal.returns-clause-sum
returns-clause-sum g c = λ k. hom_sum (g.met.K.Field.laws k) (g.met.K.Base.Field.laws (g.K.FrobField.base_of k)) (g.met.K.FrobField.frob_laws k)

pub returns-clause-central : goal.returns-clause-central
returns-clause-central g c = λ k. hom_central (g.met.K.Field.laws k) (g.met.K.Base.Field.laws (g.K.FrobField.base_of k)) (g.met.K.FrobField.frob_laws k)

pub returns-clause-image : goal.returns-clause-image
returns-clause-image g c = λ k. hom_image (g.met.K.Field.laws k) (g.met.K.Base.Field.laws (g.K.FrobField.base_of k)) (g.met.K.FrobField.frob_laws k)

pub returns-clause-product : goal.returns-clause-product
returns-clause-product g c = λ k. hom_product (g.met.K.Field.laws k) (g.met.K.Base.Field.laws (g.K.FrobField.base_of k)) (g.met.K.FrobField.frob_laws k)
