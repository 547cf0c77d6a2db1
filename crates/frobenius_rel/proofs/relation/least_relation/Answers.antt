use Rattle.std.proofs.Common.{◌≡◌, ◌-◌, MatchOption, length, sym, ap, ap₂, ◌∙◌, subst, arith}
use Rattle.ring_core.specs.Ring.{IsElem}
use Rattle.ring_core.specs.Coeffs.{coeff, first_values}
use Rattle.ring_core.specs.Twisted.{twisted_ops, list_mul}
use Rattle.ring_core.specs.Monomial.{constant}
use Rattle.frobenius_rel.specs.Relation.{IsLeastRelation}
use Rattle.frobenius_rel.specs.steps.FirstRelation.{IsFirstRelation}
use Rattle.frobenius_rel.proofs.Scaled.{first_top, scaled_done}
use Rattle.frobenius_rel.proofs.relation.least_relation.Goals as goal

pub unreachable-requires : goal.unreachable-requires
unreachable-requires g c =
    let lent = c.base-base.result.now in
    let t = g.K.Base.Field.ops lent in
    let top = c.top_constant-top.result in
    let value = c.top_constant-top.ensures.value ∙ ap (λ v. coeff t (coeff (twisted_ops t (λ c i. c)) v (length v - 1)) 0) c.deref.ensures.value in
    let zero = subst (λ o. MatchOption o (top ≡ t.zero) (λ b. IsElem t b × (t.mul top b ≡ t.one))) (sym c.inv.ensures.value ∙ c.in_default.is) ((g.met.K.Base.Field.laws lent).inv_is top c.top_constant-top.ensures.elem) in
    first_top _ _ _ _ (g.met.K.Base.Field.laws lent) _ _
    (subst (λ b. IsFirstRelation (g.K.Field.ops c.args.field.now) (g.K.Base.Field.ops b) (g.K.FrobField.frob_ops c.args.field.now) c.args.phi.now c.in_ok-first.first.items) (sym c.base-base.ensures) c.in_ok-first.ensures)
    (sym value ∙ zero)

pub returns : goal.returns
returns g c =
    let field = c.args.field.now in
    let base = g.K.FrobField.base_of field in
    let t = g.K.Base.Field.ops c.base-base.result.now in
    let inverse = c.in-Some.inverse in
    let first = c.in_ok-first.first.items in
    let top = c.top_constant-top.result in
    let value = c.top_constant-top.ensures.value ∙ ap (λ v. coeff t (coeff (twisted_ops t (λ c i. c)) v (length v - 1)) 0) c.deref.ensures.value in
    let pair = subst (λ o. MatchOption o (top ≡ t.zero) (λ b. IsElem t b × (t.mul top b ≡ t.one))) (sym c.in-Some.ensures.value) ((g.met.K.Base.Field.laws c.base-base.result.now).inv_is top c.top_constant-top.ensures.elem) in
    let inverts = subst (λ b. IsElem (g.K.Base.Field.ops b) inverse × ((g.K.Base.Field.ops b).mul (coeff (g.K.Base.Field.ops b) (coeff (twisted_ops (g.K.Base.Field.ops b) (λ c i. c)) first (length first - 1)) 0) inverse ≡ (g.K.Base.Field.ops b).one)) c.base-base.ensures
    (pair.0, ap (λ x. t.mul x inverse) (sym value) ∙ pair.1) in
    let listed = c.in_ok-list.ensures
    ∙ ap₂ (λ b v. first_values (length v) (λ i. list_mul (g.K.Base.Field.ops b) (λ c i. c) (constant (g.K.Base.Field.ops b) inverse) (coeff (twisted_ops (g.K.Base.Field.ops b) (λ c i. c)) v i))) c.base-base.ensures c.deref-2.ensures.value in
    subst (IsLeastRelation (g.K.Field.ops field) (g.K.Base.Field.ops base) (g.K.FrobField.frob_ops field) c.args.phi.now) (sym listed)
    (scaled_done _ _ _ _ _ (g.met.K.Field.laws field) (g.met.K.Base.Field.laws base) (g.met.K.FrobField.frob_laws field)
    c.args.phi.now c.requires.canonical (let p = c.requires.rank_pos in omega (arith, p)) first inverse c.in_ok-first.ensures inverts.0 inverts.1)
