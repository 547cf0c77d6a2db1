use Rattle.std.proofs.Common.{ap, arith}
use Rattle.drinfeld_mod.specs.Module.{rank_of}
use Rattle.ring_core.specs.Twisted.{twisted_ops}
use Rattle.ring_core.proofs.Carrier.{Element}
use Rattle.motive_coords.proofs.OverT.{over_t_only, over_t_back, over_t_add, over_t_scale, over_t_image, over_t_shift}
use Rattle.motive_coords.proofs.laws.over_t_acts.Goals as goal

pub returns-clause-only : goal.returns-clause-only
returns-clause-only g c = λ k phi u x y m cu s t.
    over_t_only _ _ _ _ _ (g.met.K.Field.laws k) (g.met.K.Base.Field.laws (g.K.FrobField.base_of k)) (g.met.K.FrobField.frob_laws k)
    (phi, m.canonical) (rank_of phi) (let p = m.rank_pos in omega (arith, p)) m.rank_pos (u, cu) x y s t

pub returns-clause-back : goal.returns-clause-back
returns-clause-back g c = λ k phi u v x m cu cv s t.
    ap (λ (w : Element (twisted_ops (g.K.Field.ops k) (g.K.FrobField.frob_ops k).frob)). w.0) (over_t_back _ _ _ _ _ (g.met.K.Field.laws k) (g.met.K.Base.Field.laws (g.K.FrobField.base_of k)) (g.met.K.FrobField.frob_laws k)
    (phi, m.canonical) (rank_of phi) (let p = m.rank_pos in omega (arith, p)) m.rank_pos (u, cu) (v, cv) x s t)

pub returns-clause-sum : goal.returns-clause-sum
returns-clause-sum g c = λ k phi u v x y z m cu cv s t o.
    over_t_add _ _ _ _ _ (g.met.K.Field.laws k) (g.met.K.Base.Field.laws (g.K.FrobField.base_of k)) (g.met.K.FrobField.frob_laws k)
    (phi, m.canonical) (rank_of phi) (let p = m.rank_pos in omega (arith, p)) m.rank_pos (u, cu) (v, cv) x y z s t o

pub returns-clause-scaled : goal.returns-clause-scaled
returns-clause-scaled g c = λ k phi u e x z m cu ce s o.
    over_t_scale _ _ _ _ _ (g.met.K.Field.laws k) (g.met.K.Base.Field.laws (g.K.FrobField.base_of k)) (g.met.K.FrobField.frob_laws k)
    (phi, m.canonical) (rank_of phi) (let p = m.rank_pos in omega (arith, p)) m.rank_pos (e, ce) (u, cu) x z s o

pub returns-clause-image : goal.returns-clause-image
returns-clause-image g c = λ k phi u a x z m cu ca s o.
    over_t_image _ _ _ _ _ (g.met.K.Field.laws k) (g.met.K.Base.Field.laws (g.K.FrobField.base_of k)) (g.met.K.FrobField.frob_laws k)
    (phi, m.canonical) (rank_of phi) (let p = m.rank_pos in omega (arith, p)) m.rank_pos (a, ca) (u, cu) x z s o

pub returns-clause-letter : goal.returns-clause-letter
returns-clause-letter g c = λ k phi u x z m cu s o.
    over_t_shift _ _ _ _ _ (g.met.K.Field.laws k) (g.met.K.Base.Field.laws (g.K.FrobField.base_of k)) (g.met.K.FrobField.frob_laws k)
    (phi, m.canonical) (rank_of phi) (let p = m.rank_pos in omega (arith, p)) m.rank_pos (u, cu) x z s o
