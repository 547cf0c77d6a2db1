use Rattle.fq_poly.proofs.Tops.{monic_by_inverse}
use Rattle.fq_poly.proofs.monic.monic_list.Goals as goal

pub returns : goal.returns
returns g c =
    rw c.in_ok-scaled_list.ensures.value
    (monic_by_inverse _ _ (g.met.F.Field.laws c.args.ring.now) c.args.list.now c.args.inverse c.requires.list c.requires.inverse_in c.requires.inverts)
