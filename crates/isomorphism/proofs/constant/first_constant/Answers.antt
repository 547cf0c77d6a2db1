use Rattle.std.proofs.Common.{◌<◌, [], length, sym, ap, subst, ◌∙◌, arith}
use Rattle.std.proofs.lemmas.Bool.{and_parts}
use Rattle.std.proofs.lemmas.List.{get_or_default}
use Rattle.ring_core.specs.Coeffs.{coeff, are_elems}
use Rattle.central_coords.proofs.Places.{extension}
use Rattle.isomorphism.specs.Isomorphism.{IsFirstIsomorphism}
use Rattle.isomorphism.proofs.Constants.{none, first}
use Rattle.isomorphism.proofs.constant.first_constant.Goals as goal

pub coeff_at-requires : goal.coeff_at-requires
coeff_at-requires g c =
    let list = c.args.list.now in
    let some : 0 < length list = omega arith in
    ap (are_elems (g.K.Field.ops c.args.k.now)) (c.as_slice.ensures ∙ c.index-list-0.is ∙ get_or_default list 0 c.index-list-0.result [] some) ∙ (and_parts _ _ (c.requires.members 0 some).hom.canonical).0

pub returns-then-list-eq0 : goal.returns-then-list-eq0
returns-then-list-eq0 g c =
    let k = c.args.k.now in
    let o = extension (g.met.K.Field.laws k) (g.met.K.Base.Field.laws (g.K.FrobField.base_of k)) (g.met.K.FrobField.frob_laws k) in
    none o c.args.phi.now c.args.psi.now c.args.list.now c.requires (omega arith)

pub returns : goal.returns
returns g c =
    let k = c.args.k.now in
    let r = g.K.Field.ops k in
    let o = extension (g.met.K.Field.laws k) (g.met.K.Base.Field.laws (g.K.FrobField.base_of k)) (g.met.K.FrobField.frob_laws k) in
    let list = c.args.list.now in
    let some : 0 < length list = omega arith in
    subst (IsFirstIsomorphism r (g.K.Base.Field.ops (g.K.FrobField.base_of k)) (g.K.FrobField.frob_ops k) c.args.phi.now c.args.psi.now)
    (sym (c.coeff_at.ensures.value ∙ ap (λ v. coeff r v 0) (c.as_slice.ensures ∙ c.index-list-0.is ∙ get_or_default list 0 c.index-list-0.result [] some)))
    (first o c.args.phi.now c.args.psi.now list c.requires some)
