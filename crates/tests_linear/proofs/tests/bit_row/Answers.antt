use Rattle.std.proofs.Common.{◌+◌, length, refl, ◌∙◌, ap, arith, eq-eqb}
use Rattle.std.proofs.lemmas.Bool.{and_from}
use Rattle.std.proofs.lemmas.List.{length_push}
use Rattle.ring_core.proofs.Coefficients.{elems_more}
use Rattle.tests_linear.specs.BitField.{bit_ops}
use Rattle.tests_linear.proofs.tests.bit_row.Goals as goal

pub loop-j-preserved : goal.loop-j-preserved
loop-j-preserved c = record {
  len = ap length c.in_ok-push.ensures.items ∙ length_push c.loop-j.row.items _ ∙ ap (λ n. n + 1) c.loop-j.invariant.len;
  elems = elems_more bit_ops c.loop-j.row.items _ _ c.in_ok-push.ensures.items c.loop-j.invariant.elems refl;
}

pub returns : goal.returns
returns c = and_from _ _ (eq-eqb _ _ (omega (arith, c.loop-j.invariant.len))) c.loop-j.invariant.elems
