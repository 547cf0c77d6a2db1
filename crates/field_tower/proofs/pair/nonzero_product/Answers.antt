use Rattle.std.proofs.Common.{true≢false, sym, ap, ◌∙◌}
use Rattle.field_tower.proofs.pair.nonzero_product.Goals as goal

pub returns-then-is_zero : goal.returns-then-is_zero
returns-then-is_zero g c =
    let ring = (g.met.A.Algebra.laws c.args.algebra.now).ring in
    sym c.mul-product.ensures.value
    ∙ ring.equal.same_eq _ _ c.mul-product.ensures.elem ring.closed.zero_in (sym c.is_zero.ensures ∙ c.if-is_zero.true)

pub returns-else-is_zero : goal.returns-else-is_zero
returns-else-is_zero g c =
    let t = g.A.Algebra.ops c.args.algebra.now in
    let ring = (g.met.A.Algebra.laws c.args.algebra.now).ring in
    let product = c.mul-product.result in
    record {
      elem = c.mul-product.ensures.elem;
      value = c.mul-product.ensures.value;
      nonzero = λ e.
          true≢false (sym (ring.equal.same_refl product c.mul-product.ensures.elem) ∙ ap (t.same product) e ∙ sym c.is_zero.ensures ∙ c.if-is_zero.false);
    }
