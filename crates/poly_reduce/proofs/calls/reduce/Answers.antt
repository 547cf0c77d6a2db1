use Rattle.std.proofs.Common.{◌≡◌, length, max, subst, ◌∙◌, arith}
use Rattle.flat_modules.specs.Flat.{IsReduction}
use Rattle.poly_reduce.specs.Rows.{IsFlatReduction}
use Rattle.poly_reduce.specs.Matrices.{StandFor}
use Rattle.poly_reduce.proofs.Bases.{reduced_from}
use Rattle.poly_reduce.proofs.calls.reduce.Goals as goal

pub returns : goal.returns
returns g c =
    let f = c.args.f.now in
    let r = g.F.Field.ops f in
    let m = c.args.m.now in
    let flat = c.in_ok-flat.flat in
    let stands = c.in_ok-flat.ensures.rows in
    let width = c.in_ok-flat.ensures.width in
    let many : length flat.rows ≡ length m.rows = stands.count in
    let a = c.in_ok-left.field-0.left in
    let b = c.in_ok-left.field-0.back in
    let u = c.in_ok-left.field-0.image in
    let found : IsFlatReduction r flat a b u = c.in_ok-left.ensures in
    let left = c.in_ok-unflatten.field-0 in
    let back = c.in_ok-unflatten-2.field-0 in
    let image = c.in_ok-unflatten-3.field-0 in
    let lw : a.width ≡ max 1 (length flat.rows) = found.left_width in
    let bw : b.width ≡ max 1 (length flat.rows) = found.back_width in
    let wl : a.width ≡ length flat.rows = omega (arith, lw, many) in
    let wb : b.width ≡ length flat.rows = omega (arith, bw, many) in
    let wi = found.image_width ∙ width in
    reduced_from r (g.F.Field.inv_of f) (g.met.F.Field.laws f) m (omega (arith, c.requires.width)) flat.rows stands (omega (arith, many)) left back image a.rows b.rows u.rows
    (c.in_ok-unflatten.ensures.width ∙ wl) (c.in_ok-unflatten-2.ensures.width ∙ wb)
    (c.in_ok-unflatten-3.ensures.width ∙ wi)
    (subst (λ k. StandFor r k left.rows a.rows) wl c.in_ok-unflatten.ensures.rows)
    (subst (λ k. StandFor r k back.rows b.rows) wb c.in_ok-unflatten-2.ensures.rows)
    (subst (λ k. StandFor r k image.rows u.rows) wi c.in_ok-unflatten-3.ensures.rows)
    (subst (λ w. IsReduction r w flat.rows a.rows b.rows u.rows) width found.reduction)
