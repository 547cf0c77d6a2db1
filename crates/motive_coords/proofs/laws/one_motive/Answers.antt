use Rattle.std.proofs.Common.{refl, arith}
use Rattle.drinfeld_mod.specs.Module.{rank_of}
use Rattle.motive_coords.proofs.MotiveValue.{motive_only}
use Rattle.motive_coords.proofs.MotiveLaws.{motive_exists}
use Rattle.motive_coords.proofs.OfMotive.{value_in}
use Rattle.motive_coords.proofs.laws.one_motive.Goals as goal

pub returns-clause-exists : goal.returns-clause-exists
returns-clause-exists g c = λ k phi u m cu.
    motive_exists _ _ _ _ (g.met.K.Field.laws k) (g.met.K.FrobField.frob_laws k) (phi, m.canonical) (rank_of phi) (let p = m.rank_pos in omega (arith, p)) m.rank_pos (u, cu)

pub returns-clause-only : goal.returns-clause-only
returns-clause-only g c = λ k phi u x y m cu s t.
    motive_only _ _ _ _ (g.met.K.Field.laws k) (g.met.K.FrobField.frob_laws k) (phi, m.canonical) (rank_of phi) (let p = m.rank_pos in omega (arith, p)) m.rank_pos
    (u, cu) x y s t

pub returns-clause-back : goal.returns-clause-back
returns-clause-back g c = λ k phi list m count inside. (
  value_in _ _ _ _ (g.met.K.Field.laws k) (g.met.K.FrobField.frob_laws k) (phi, m.canonical) (rank_of phi) (let p = m.rank_pos in omega (arith, p)) m.rank_pos
      list inside count,
  record { count = count; elems = inside; is = refl },
)
