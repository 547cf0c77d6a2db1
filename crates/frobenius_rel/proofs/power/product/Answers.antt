use Rattle.std.proofs.Common.{◌≡◌, ◌+◌, length, arith}
use Rattle.fq_poly.specs.Poly.{poly_ops}
use Rattle.ring_core.specs.Twisted.{product_at}
use Rattle.ring_core.proofs.Coefficients.{values_more}
use Rattle.frobenius_rel.proofs.Products.{product_list}
use Rattle.frobenius_rel.proofs.power.product.Goals as goal

pub loop-k-preserved : goal.loop-k-preserved
loop-k-preserved g c =
    let p = poly_ops (g.F.Field.ops c.args.base.now) in
    values_more p c.loop-k.k (product_at p (λ c i. c) c.args.a.now c.args.b.now) _ _ _ c.in_ok-push.ensures.items c.loop-k.invariant c.in_ok-one.ensures

pub returns : goal.returns
returns g c =
    let base = c.args.base.now in
    let count : c.loop-k.k + 1 ≡ length c.args.a.now + length c.args.b.now = omega arith in
    product_list (g.F.Field.ops base) (g.F.Field.inv_of base) (g.met.F.Field.laws base) c.args.a.now c.args.b.now c.loop-k.list.items c.loop-k.k
    c.requires.left c.requires.right c.requires.some c.requires.others count c.loop-k.invariant
