use Rattle.std.proofs.Common.{slice_index_or, Some, sym, ap, subst, ◌∙◌}
use Rattle.ring_core.specs.Ring.{IsElem}
use Rattle.residue_field.specs.Base.{ops_of, inverse_of}
use Rattle.field_tower.proofs.TopNorm.{place_none, norm_in, inverse_of_zero, inverse_in, inverse_by_norm}
use Rattle.field_tower.proofs.tower.TowerField.inv.Goals as goal

pub inv-requires : goal.inv-requires
inv-requires c =
    let t = c.args.self.now in
    let x = c.mul-norm.result in
    subst (λ k. IsElem (ops_of k.base) (slice_index_or x.0 0 0)) (sym c.self.view_is)
    (norm_in t c.args.a c.requires c.degree.result c.degree.ensures c.conjugates-others.result x c.conjugates-others.ensures.value c.mul-norm.ensures.value _ (place_none t x))

pub scaled-requires-clause-factor : goal.scaled-requires-clause-factor
scaled-requires-clause-factor c =
    let t = c.args.self.now in
    let x = c.mul-norm.result in
    inverse_in t c.args.a c.requires c.degree.result c.degree.ensures c.conjugates-others.result x c.conjugates-others.ensures.value c.mul-norm.ensures.value _ c.in-Some.d (place_none t x)
    (sym (ap (λ k. inverse_of k.base (slice_index_or x.0 0 0)) c.self.view_is) ∙ sym c.inv.ensures.value ∙ c.in-Some.is)

pub returns-in-None-clause-value : goal.returns-in-None-clause-value
returns-in-None-clause-value c =
    let t = c.args.self.now in
    let x = c.mul-norm.result in
    inverse_of_zero t c.args.a c.requires c.degree.result c.degree.ensures c.conjugates-others.result x c.conjugates-others.ensures.value c.mul-norm.ensures.value _ (place_none t x)
    (sym (ap (λ k. inverse_of k.base (slice_index_or x.0 0 0)) c.self.view_is) ∙ sym c.inv.ensures.value ∙ c.in-None.is)

pub returns-in-Some-clause-value : goal.returns-in-Some-clause-value
returns-in-Some-clause-value c =
    let t = c.args.self.now in
    let x = c.mul-norm.result in
    ap Some c.scaled.ensures.value
    ∙ inverse_by_norm t c.args.a c.requires c.degree.result c.degree.ensures c.conjugates-others.result x c.conjugates-others.ensures.value c.mul-norm.ensures.value _ c.in-Some.d (place_none t x)
    (sym (ap (λ k. inverse_of k.base (slice_index_or x.0 0 0)) c.self.view_is) ∙ sym c.inv.ensures.value ∙ c.in-Some.is)
