use Rattle.std.proofs.Common.{sym, ◌∙◌, ap₂}
use Rattle.ring_core.specs.Monomial.{monomial}
use Rattle.ring_core.specs.Twisted.{list_add}
use Rattle.operand_value.proofs.Monomials.{terms_more}
use Rattle.operand_value.proofs.poly.poly_value.Goals as goal

pub loop-term-preserved : goal.loop-term-preserved
loop-term-preserved g c =
    let r = g.F.Field.ops c.args.field.now in
    let term = c.term-item.result in
    record {
      elems = c.in_ok-add_term.ensures.elems;
      value =
          c.in_ok-add_term.ensures.sum
          ∙ ap₂ (λ u v. list_add r u (monomial r v term.power)) c.loop-term.invariant.value c.term_value-value.ensures.value
          ∙ sym (terms_more r (g.F.Letters.letters c.args.field.now) c.as_slice-term-items.result.now c.loop-term.term-index term c.loop-term-test.true c.term-item.is);
    }
