use Rattle.twist_theory.proofs.Cancel.{frob_cancel_right}
use Rattle.twist_theory.proofs.laws.right_factor_cancels.Goals as goal

pub returns : goal.returns
returns g c =
    λ k x y z cx cy cz some e.
    frob_cancel_right (g.K.Field.ops k) (g.K.Field.inv_of k) (g.K.Base.Field.ops (g.K.FrobField.base_of k)) (g.K.FrobField.frob_ops k)
    (g.met.K.Field.laws k) (g.met.K.FrobField.frob_laws k) x y z cx cy cz some e
