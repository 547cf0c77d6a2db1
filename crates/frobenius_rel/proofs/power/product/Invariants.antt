use Rattle.std.proofs.Common.{◌≡◌}
use Rattle.ring_core.specs.Coeffs.{first_values}
use Rattle.ring_core.specs.Twisted.{product_at}
use Rattle.fq_poly.specs.Poly.{poly_ops}
use Rattle.frobenius_rel.proofs.power.product.Given as goal

abbrev pub invariant-loop-k : goal.invariant-loop-k
invariant-loop-k g l = l.list.items ≡ first_values l.k (product_at (poly_ops (g.F.Field.ops l.base)) (λ c i. c) l.a l.b)
