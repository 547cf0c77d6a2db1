use Rattle.std.proofs.Common.{arith}
use Rattle.drinfeld_mod.specs.Module.{rank_of}
use Rattle.motive_coords.proofs.MotiveLaws.{motive_add, motive_scale, motive_shift}
use Rattle.motive_coords.proofs.laws.motive_acts.Goals as goal

pub returns-clause-sum : goal.returns-clause-sum
returns-clause-sum g c = λ k phi u v x y z m cu cv s t o.
    motive_add _ _ _ _ (g.met.K.Field.laws k) (g.met.K.FrobField.frob_laws k) (phi, m.canonical) (rank_of phi) (let p = m.rank_pos in omega (arith, p)) m.rank_pos
    (u, cu) (v, cv) x y z s t o

pub returns-clause-scaled : goal.returns-clause-scaled
returns-clause-scaled g c = λ k phi u e x z m cu ce s o.
    motive_scale _ _ _ _ (g.met.K.Field.laws k) (g.met.K.FrobField.frob_laws k) (phi, m.canonical) (rank_of phi) (let p = m.rank_pos in omega (arith, p)) m.rank_pos
    (e, ce) (u, cu) x z s o

pub returns-clause-letter : goal.returns-clause-letter
returns-clause-letter g c = λ k phi u x z m cu s o.
    motive_shift _ _ _ _ (g.met.K.Field.laws k) (g.met.K.FrobField.frob_laws k) (phi, m.canonical) (rank_of phi) (let p = m.rank_pos in omega (arith, p)) m.rank_pos
    (u, cu) x z s o
