use Rattle.central_coords.proofs.Places.{extension}
use Rattle.central_coords.proofs.Blocks.{sum_polys, constant_polys, letter_polys}
use Rattle.central_coords.proofs.laws.linear.Goals as goal

pub returns-clause-sum : goal.returns-clause-sum
returns-clause-sum g c = λ k u v a b cu cv ha hb.
    let o = extension (g.met.K.Field.laws k) (g.met.K.Base.Field.laws (g.K.FrobField.base_of k)) (g.met.K.FrobField.frob_laws k) in
    sum_polys o (u, cu) (v, cv) a b ha hb

pub returns-clause-constant : goal.returns-clause-constant
returns-clause-constant g c = λ k x u a xi cu ha.
    let o = extension (g.met.K.Field.laws k) (g.met.K.Base.Field.laws (g.K.FrobField.base_of k)) (g.met.K.FrobField.frob_laws k) in
    constant_polys o (x, xi) (u, cu) a ha

pub returns-clause-letter : goal.returns-clause-letter
returns-clause-letter g c = λ k u a cu ha.
    let o = extension (g.met.K.Field.laws k) (g.met.K.Base.Field.laws (g.K.FrobField.base_of k)) (g.met.K.FrobField.frob_laws k) in
    letter_polys o (u, cu) a ha
