use Rattle.std.proofs.Common.{inl, inr, sym, ◌∙◌, ap, arith}
use Rattle.ring_core.specs.Coeffs.{coeff}
use Rattle.linear_algebra.proofs.Sums.{same_or_other}
use Rattle.fq_linear.proofs.Places.{same_tells}
use Rattle.fq_linear.proofs.cells.first_place.Goals as goal

pub loop-k-preserved : goal.loop-k-preserved
loop-k-preserved g c =
    let r = g.F.Field.ops c.args.f.now in
    let ring = (g.met.F.Field.laws c.args.f.now).ring in
    let here = sym c.coeff_at.ensures.value ∙ same_tells r ring _ _ _ c.coeff_at.ensures.elem c.zero.ensures.elem c.equal.ensures c.if-not-equal.false ∙ c.zero.ensures.value in
    λ m a b. elim (same_or_other m c.loop-k.k) [
      | inl e ↦ ap (coeff r c.args.row.now) e ∙ here
      | inr d ↦ c.loop-k.invariant m a (omega arith)
    ]
