use Rattle.std.proofs.lemmas.Bool.{and_parts}
use Rattle.ring_core.proofs.Central.{base_central}
use Rattle.ore_poly.proofs.laws.base_central.Goals as goal

pub returns : goal.returns
returns g c = λ k b u p e.
    base_central (g.K.Field.ops k) (g.K.Field.inv_of k) _ (g.K.FrobField.frob_ops k) (g.met.K.Field.laws k) (g.met.K.FrobField.frob_laws k) b u p (and_parts _ _ e).0
