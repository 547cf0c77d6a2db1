use Rattle.central_coords.proofs.Places.{extension}
use Rattle.hom_space.proofs.BoundedList.{one_bounded_list}
use Rattle.hom_space.proofs.laws.one_bounded_list.Goals as goal

pub returns : goal.returns
returns g c = λ k phi psi d a b source target p q.
    let o = extension (g.met.K.Field.laws k) (g.met.K.Base.Field.laws (g.K.FrobField.base_of k)) (g.met.K.FrobField.frob_laws k) in
    one_bounded_list o (phi, source.canonical) (psi, target.canonical) d a b p q
