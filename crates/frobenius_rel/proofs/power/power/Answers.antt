use Rattle.std.proofs.Common.{◌≡◌, ◌+◌, ◌<◌, suc, length, sym, ◌∙◌, ap, subst, arith}
use Rattle.ring_core.specs.Coeffs.{is_canonical}
use Rattle.ring_core.specs.Powers.{power_of}
use Rattle.fq_poly.specs.Poly.{poly_ops, poly_mul}
use Rattle.frobenius_rel.proofs.Products.{product_in, product_length}
use Rattle.frobenius_rel.proofs.power.power.Goals as goal

pub loop-preserved : goal.loop-preserved
loop-preserved g c =
    let field = g.met.F.Field.laws c.args.base.now in
    let p = poly_ops (g.F.Field.ops c.args.base.now) in
    let a = c.args.a.now in
    let list = c.loop.list.items in
    let before = c.loop.invariant in
    let is = c.in_ok-list.ensures ∙ ap (λ t. poly_mul p t a) c.deref.ensures.value in
    let more : suc c.loop.counter ≡ c.loop.counter + 1 = omega arith in
    let filled : 0 < length (poly_mul p list a) =
    omega (arith, product_length _ _ field list a before.elem c.requires.elem before.some c.requires.nonzero, before.some, c.requires.nonzero) in
    record {
      elem = ap (is_canonical p) is ∙ product_in _ _ field list a before.elem c.requires.elem;
      some = subst (λ t. 0 < length t) (sym is) filled;
      value = is ∙ ap (λ t. poly_mul p t a) before.value ∙ ap (power_of (poly_ops p) a) more;
    }
