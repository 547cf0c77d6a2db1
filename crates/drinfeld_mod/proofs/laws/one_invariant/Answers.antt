use Rattle.drinfeld_mod.proofs.Norms.{same_invariant}
use Rattle.drinfeld_mod.proofs.laws.one_invariant.Goals as goal

pub returns : goal.returns
returns g c = λ k q phi i x y large m.
    same_invariant _ _ _ _ (g.met.K.Field.laws k) (g.met.K.FrobField.frob_laws k) q large phi m i x y
