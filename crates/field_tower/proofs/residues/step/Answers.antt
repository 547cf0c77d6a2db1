use Rattle.std.proofs.Common.{◌≡◌, ◌≢◌, ◌-◌, ◌<◌, ◌≤◌, length, ap, ap₂, ◌∙◌, arith}
use Rattle.ring_core.specs.Coeffs.{coeff}
use Rattle.residue_field.specs.Residue.{times_x}
use Rattle.ring_core.proofs.Coefficients.{elems_set}
use Rattle.field_tower.proofs.Writes.{written, unwritten, shifted_same}
use Rattle.field_tower.proofs.residues.step.Goals as goal

pub loop-i-preserved : goal.loop-i-preserved
loop-i-preserved g c =
    let r = g.F.Field.ops c.args.field.now in
    let modulus = c.args.modulus.now in
    let old = coeff r c.args.out.now in
    let i = c.loop-i.i - 1 in
    let before = c.loop-i.invariant in
    let top_place : (length modulus - 1) - 1 ≡ length modulus - 2 = omega arith in
    let value =
    c.step_at-next.ensures.value
    ∙ ap₂ (λ s t. r.add (r.mul c.args.c (coeff r c.args.b.now i)) (r.add s (r.neg (r.mul t (coeff r modulus i)))))
    (shifted_same r (coeff r c.loop-i.out) old i (λ j (l : j < i). before.below j (omega arith)))
    (c.coeff_at-top.ensures.value ∙ ap old top_place) in
    record {
      elems = elems_set r c.loop-i.out i _ before.elems c.step_at-next.ensures.elem;
      done =
          λ j (l : i ≤ j) (m : j < (length modulus - 1)).
          written r c.loop-i.out i _ (λ k. r.add (r.mul c.args.c (coeff r c.args.b.now k)) (times_x r (length modulus - 2) (coeff r modulus) old k)) j (omega arith)
          value (λ (d : j ≢ i). before.done j (omega arith) m);
      below = λ j (l : j < i). let d : j ≢ i = omega arith in unwritten r c.loop-i.out i _ j d (before.below j (omega arith));
      past = λ j (l : (length modulus - 1) ≤ j). let d : j ≢ i = omega arith in unwritten r c.loop-i.out i _ j d (before.past j l);
    }
