use Rattle.std.proofs.Common.{◌≡◌, take, true}
use Rattle.ring_core.specs.Coeffs.{are_elems}
use Rattle.fq_poly.specs.Poly.{poly_ops}
use Rattle.tests_reduction.proofs.matrices.all_polys.Given as goal

abbrev pub invariant-loop-a : goal.invariant-loop-a
invariant-loop-a g l = are_elems (poly_ops (g.F.Field.ops l.f)) (take l.a-index l.list) ≡ true
