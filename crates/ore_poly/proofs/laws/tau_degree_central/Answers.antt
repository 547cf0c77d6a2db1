use Rattle.std.proofs.lemmas.Bool.{and_parts}
use Rattle.ring_core.proofs.Central.{tau_degree_central}
use Rattle.ore_poly.proofs.laws.tau_degree_central.Goals as goal

pub returns : goal.returns
returns g c = λ k u e.
    tau_degree_central (g.K.Field.ops k) (g.K.Field.inv_of k) _ (g.K.FrobField.frob_ops k) (g.met.K.Field.laws k) (g.met.K.FrobField.frob_laws k) u (and_parts _ _ e).0
