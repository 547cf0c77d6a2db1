use Rattle.std.proofs.Common.{◌≡◌, ℕ, ◌+◌, ◌<◌, length, subst, sym, ap, ◌∙◌, arith}
use Rattle.ring_core.specs.Coeffs.{coeff}
use Rattle.ring_core.specs.Written.{IsWritten}
use Rattle.ring_core.proofs.Coefficients.{coeff_past, elems_set}
use Rattle.ring_core.proofs.Twist.{frob_of_zero}
use Rattle.ring_core.proofs.Written.{written_more, written_all, next_place}
use Rattle.ore_poly.proofs.terms.raise_row.Goals as goal

pub loop-j-preserved : goal.loop-j-preserved
loop-j-preserved g c =
    let k = c.args.field.now in
    let r = g.K.Field.ops k in
    let frob = (g.K.FrobField.frob_ops k).frob in
    let before = c.args.row.now in
    let row = c.loop-j.row in
    let j = c.loop-j.j in
    let place : j ≡ 0 + j = omega arith in
    let room : j < length row = omega arith in
    let was = next_place r.zero 0 j _ before row c.loop-j.invariant.written in
    record {
      elems = elems_set r row j _ c.loop-j.invariant.elems c.frob-power.ensures.elem;
      written =
          written_more r.zero 0 j j (λ n. frob (coeff r before n) 1) before row _ c.loop-j.invariant.written place room
          (c.frob-power.ensures.value
          ∙ ap (λ x. frob x 1) (c.coeff_at-member.ensures.value ∙ ap (coeff r row) place ∙ was ∙ ap (coeff r before) (sym place)));
    }

pub returns-clause-raised : goal.returns-clause-raised
returns-clause-raised g c =
    let k = c.args.field.now in
    let r = g.K.Field.ops k in
    let f = g.K.FrobField.frob_ops k in
    let before = c.args.row.now in
    let raised = λ (n : ℕ). f.frob (coeff r before n) 1 in
    let all : c.loop-j.j ≡ length before = omega arith in
    written_all r raised before c.loop-j.row
    (subst (λ n. IsWritten r.zero 0 n raised before c.loop-j.row) all c.loop-j.invariant.written)
    (λ n past.
    ap (λ x. f.frob x 1) (coeff_past r before n past)
    ∙ frob_of_zero r (g.K.Field.inv_of k) _ f (g.met.K.Field.laws k) (g.met.K.FrobField.frob_laws k) 1)
