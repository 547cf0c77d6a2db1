use Rattle.std.proofs.Common.{◌≡◌, ◌↔◌, ℕ, true, [], subst, sym, ◌∙◌, ap, arith}
use Rattle.ring_core.specs.Coeffs.{coeff}
use Rattle.linear_algebra.specs.Linear.{is_row}
use Rattle.fq_poly.specs.Poly.{poly_ops}
use Rattle.flat_modules.specs.Flat.{IsStandard, IsInModule, IsNormal}
use Rattle.poly_reduce.specs.Matrices.{member}
use Rattle.popov_basis.proofs.RowBases.{standard_into, normal_from, rest_from}
use Rattle.popov_basis.proofs.calls.normal.Goals as goal

pub normal_flat-requires-clause-standard : goal.normal_flat-requires-clause-standard
normal_flat-requires-clause-standard g c =
    let f = c.args.f.now in
    let r = g.F.Field.ops f in
    let basis = c.args.basis.now in
    let flat = c.in_ok-flat.flat in
    subst (λ w. IsStandard r w flat.rows) (sym c.in_ok-flat.ensures.width)
    (standard_into r (g.F.Field.inv_of f) (g.met.F.Field.laws f) basis.width (omega (arith, c.requires.width)) basis.rows flat.rows c.in_ok-flat.ensures.rows c.requires.standard)

pub returns-clause-normal : goal.returns-clause-normal
returns-clause-normal g c =
    let f = c.args.f.now in
    let r = g.F.Field.ops f in
    let basis = c.args.basis.now in
    let flat = c.in_ok-flat.flat in
    let n = c.in_ok-quotients.field-0 in
    let row = c.in_ok-row.row.items in
    let same : c.deref.result.now ≡ row = c.deref.ensures.value in
    let wide = c.width.ensures in
    let across = c.width-2.ensures in
    let z = c.in_ok-rest.rest in
    normal_from r (g.F.Field.inv_of f) (g.met.F.Field.laws f) basis.width (omega (arith, c.requires.width)) basis.rows flat.rows c.in_ok-flat.ensures.rows c.args.v.now row c.requires.row
    (subst (λ w. (t : ℕ) → coeff r row t ≡ member r w c.args.v.now t) wide c.in_ok-row.ensures.is) n.quotients z n.rest
    (subst (λ w. is_row (poly_ops r) w z ≡ true) across c.in_ok-rest.ensures.row)
    (λ t. sym (ap (λ u. coeff r u t) c.as_slice.ensures) ∙ c.in_ok-rest.ensures.is t ∙ ap (λ w. member r w z t) across)
    (subst (λ u. IsNormal r basis.width flat.rows u n.quotients n.rest) same (subst (λ w. IsNormal r w flat.rows c.deref.result.now n.quotients n.rest) c.in_ok-flat.ensures.width c.in_ok-quotients.ensures.normal))

pub returns-clause-member : goal.returns-clause-member
returns-clause-member g c =
    let f = c.args.f.now in
    let r = g.F.Field.ops f in
    let basis = c.args.basis.now in
    let flat = c.in_ok-flat.flat in
    let n = c.in_ok-quotients.field-0 in
    let row = c.in_ok-row.row.items in
    let same : c.deref.result.now ≡ row = c.deref.ensures.value in
    let wide = c.width.ensures in
    let across = c.width-2.ensures in
    let z = c.in_ok-rest.rest in
    rest_from r (g.F.Field.inv_of f) (g.met.F.Field.laws f) basis.width (omega (arith, c.requires.width)) basis.rows flat.rows c.in_ok-flat.ensures.rows c.args.v.now row c.requires.row
    (subst (λ w. (t : ℕ) → coeff r row t ≡ member r w c.args.v.now t) wide c.in_ok-row.ensures.is) n.quotients z n.rest
    (subst (λ w. is_row (poly_ops r) w z ≡ true) across c.in_ok-rest.ensures.row)
    (λ t. sym (ap (λ u. coeff r u t) c.as_slice.ensures) ∙ c.in_ok-rest.ensures.is t ∙ ap (λ w. member r w z t) across)
    (subst (λ u. IsNormal r basis.width flat.rows u n.quotients n.rest) same (subst (λ w. IsNormal r w flat.rows c.deref.result.now n.quotients n.rest) c.in_ok-flat.ensures.width c.in_ok-quotients.ensures.normal))
    (subst (λ u. (n.rest ≡ []) ↔ IsInModule r basis.width flat.rows u) same (subst (λ w. (n.rest ≡ []) ↔ IsInModule r w flat.rows c.deref.result.now) c.in_ok-flat.ensures.width c.in_ok-quotients.ensures.member))
