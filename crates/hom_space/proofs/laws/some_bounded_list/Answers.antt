use Rattle.central_coords.proofs.Places.{extension}
use Rattle.hom_space.proofs.SystemRows.{bounded_exists}
use Rattle.hom_space.proofs.laws.some_bounded_list.Goals as goal

pub returns : goal.returns
returns g c = λ k phi psi d source target.
    let o = extension (g.met.K.Field.laws k) (g.met.K.Base.Field.laws (g.K.FrobField.base_of k)) (g.met.K.FrobField.frob_laws k) in
    bounded_exists o (phi, source.canonical) (psi, target.canonical) d
