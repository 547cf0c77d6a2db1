use Rattle.std.proofs.Common.{◌<◌, length, [], sym, ◌∙◌, arith}
use Rattle.std.proofs.lemmas.Bool.{eqb-false}
use Rattle.std.proofs.lemmas.List.{get_or_default}
use Rattle.central_coords.proofs.Places.{extension}
use Rattle.isomorphism.proofs.Isogenies.{first_isogeny}
use Rattle.isomorphism.proofs.isogeny.isogenous_from.Goals as goal

pub returns : goal.returns
returns g c =
    let k = c.args.k.now in
    let o = extension (g.met.K.Field.laws k) (g.met.K.Base.Field.laws (g.K.FrobField.base_of k)) (g.met.K.FrobField.frob_laws k) in
    let full = c.args.full.now in
    let some : 0 < length full = omega (arith, eqb-false (length full) 0 (sym c.is_empty.ensures ∙ c.if-is_empty.false)) in
    first_isogeny o c.args.phi.now c.args.psi.now full c.requires c.from_vec.result some (c.from_vec.ensures ∙ c.in_ok-first.ensures ∙ c.as_slice.ensures ∙ c.index-full-0.is ∙ get_or_default full 0 c.index-full-0.result [] some)
