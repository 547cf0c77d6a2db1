use Rattle.std.proofs.Common.{arith}
use Rattle.drinfeld_mod.specs.Module.{rank_of}
use Rattle.frobenius_rel.proofs.Scaled.{least_only}
use Rattle.frobenius_rel.proofs.laws.one_least_relation.Goals as goal

pub returns : goal.returns
returns g c = λ k phi a b m s t.
    least_only _ _ _ _ _ (g.met.K.Field.laws k) (g.met.K.Base.Field.laws (g.K.FrobField.base_of k)) (g.met.K.FrobField.frob_laws k)
    (phi, m.canonical) (rank_of phi) (let p = m.rank_pos in omega (arith, p)) m.rank_pos a b s t
