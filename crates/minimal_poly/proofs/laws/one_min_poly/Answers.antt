use Rattle.minimal_poly.proofs.MinPoly.{same_poly}
use Rattle.minimal_poly.proofs.laws.one_min_poly.Goals as goal

pub returns : goal.returns
returns g c = λ k x a b e pa pb.
    same_poly _ _ _ _ _ (g.met.K.Field.laws k) (g.met.K.Base.Field.laws (g.K.FrobField.base_of k)) (g.met.K.FrobField.frob_laws k) x e a b pa pb
