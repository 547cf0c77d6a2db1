use Rattle.std.proofs.Common.{ap}
use Rattle.central_coords.proofs.Places.{extension}
use Rattle.central_coords.proofs.Blocks.{one_list, one_polynomial}
use Rattle.central_coords.proofs.laws.one_to_one.Goals as goal

pub returns-clause-list : goal.returns-clause-list
returns-clause-list g c = λ k.
    one_list (extension (g.met.K.Field.laws k) (g.met.K.Base.Field.laws (g.K.FrobField.base_of k)) (g.met.K.FrobField.frob_laws k))

pub returns-clause-polynomial : goal.returns-clause-polynomial
returns-clause-polynomial g c = λ k u v a cu cv hu hv.
    let o = extension (g.met.K.Field.laws k) (g.met.K.Base.Field.laws (g.K.FrobField.base_of k)) (g.met.K.FrobField.frob_laws k) in
    ap (λ y. y.0) (one_polynomial o (u, cu) (v, cv) a hu hv)
