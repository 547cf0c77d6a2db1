use Rattle.std.proofs.Common.{◌≡◌}
use Rattle.ring_core.specs.Coeffs.{coeff, first_values}
use Rattle.ring_core.specs.Twisted.{twisted_ops, list_mul}
use Rattle.ring_core.specs.Monomial.{constant}
use Rattle.frobenius_rel.proofs.scale.scaled_polys.Given as goal

abbrev pub invariant-loop-i : goal.invariant-loop-i
invariant-loop-i g l =
    let r = g.F.Field.ops l.field in
    l.list.items ≡ first_values l.i (λ i. list_mul r (λ c i. c) (constant r l.factor) (coeff (twisted_ops r (λ c i. c)) l.polys i))
