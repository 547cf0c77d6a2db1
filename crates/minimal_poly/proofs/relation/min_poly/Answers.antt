use Rattle.std.proofs.Common.{sym, ap₂, subst, ◌∙◌}
use Rattle.ring_core.specs.Coeffs.{are_elems}
use Rattle.linear_algebra.specs.Linear.{are_rows, IsIndependent, IsFirstDependence}
use Rattle.linear_algebra.proofs.RowLists.{row_elems}
use Rattle.minimal_poly.specs.MinPoly.{IsMinPoly}
use Rattle.minimal_poly.proofs.MinPoly.{monic_of, rows_shaped, not_independent, relation_is}
use Rattle.minimal_poly.proofs.relation.min_poly.Goals as goal

pub first_dependence-requires : goal.first_dependence-requires
first_dependence-requires g c =
    let k = c.args.k.now in
    ap₂ (λ b w. are_rows (g.K.Base.Field.ops b) w c.in_ok-rows.rows.rows) c.base.ensures c.in_ok-rows.ensures.width
    ∙ rows_shaped _ _ _ _ _ (g.met.K.Field.laws k) (g.met.K.Base.Field.laws (g.K.FrobField.base_of k)) (g.met.K.FrobField.frob_laws k) c.args.c c.requires _ c.in_ok-rows.ensures.rows

pub unreachable-requires : goal.unreachable-requires
unreachable-requires g c =
    let k = c.args.k.now in
    not_independent _ _ _ _ _ (g.met.K.Field.laws k) (g.met.K.Base.Field.laws (g.K.FrobField.base_of k)) (g.met.K.FrobField.frob_laws k) c.args.c c.requires _ c.in_ok-rows.ensures.rows
    (subst (λ b. IsIndependent (g.K.Base.Field.ops b) c.in_ok-rows.rows.rows) c.base.ensures (rw c.in_default.is at c.in_ok-coefficients.ensures))

pub monic_relation-requires : goal.monic_relation-requires
monic_relation-requires g c =
    let first = rw c.in-Some.is at c.in_ok-coefficients.ensures in
    let base = g.K.Base.Field.ops c.base.result.now in
    ap₂ (λ b u. are_elems (g.K.Base.Field.ops b) u) (c.base-2.ensures ∙ sym c.base.ensures) c.deref.ensures.value
    ∙ row_elems base c.in-Some.field-0-0 c.in-Some.coefficients.items first.shape

pub returns : goal.returns
returns g c =
    let k = c.args.k.now in
    let m = c.in-Some.field-0-0 in
    let d = c.in-Some.coefficients.items in
    subst (IsMinPoly (g.K.Field.ops k) (g.K.Base.Field.ops (g.K.FrobField.base_of k)) (g.K.FrobField.frob_ops k).embed c.args.c)
    (sym (c.from_vec.ensures ∙ c.in_ok-relation.ensures ∙ ap₂ (λ b u. monic_of (g.K.Base.Field.ops b) u) c.base-2.ensures c.deref.ensures.value))
    (relation_is _ _ _ _ _ (g.met.K.Field.laws k) (g.met.K.Base.Field.laws (g.K.FrobField.base_of k)) (g.met.K.FrobField.frob_laws k) c.args.c c.requires _ c.in_ok-rows.ensures.rows m d
    (subst (λ b. IsFirstDependence (g.K.Base.Field.ops b) c.in_ok-rows.rows.rows m d) c.base.ensures (rw c.in-Some.is at c.in_ok-coefficients.ensures)))
