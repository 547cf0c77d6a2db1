use Rattle.std.proofs.Common.{◌≡◌, ◌+◌, ◌*◌, ◌/◌, ◌%◌, sym, ap, ap₂, ◌∙◌, arith}
use Rattle.std.proofs.lemmas.Nat.{div-mul-add, mod-mul-add}
use Rattle.ring_core.proofs.Coefficients.{values_more}
use Rattle.residue_field.specs.Prime.{prime_ops}
use Rattle.field_tower.specs.steps.Codes.{code_ops, first_sums}
use Rattle.field_tower.proofs.tables.push_sums.Goals as goal

pub loop-b-preserved : goal.loop-b-preserved
loop-b-preserved c =
    let k = c.args.codes.now in
    let a = c.args.a in
    let b = c.loop-b.b in
    let add = (code_ops k).add in
    let next : a * k.q + b + 1 ≡ a * k.q + (b + 1) = omega arith in
    values_more (prime_ops 2) (a * k.q + b) (λ m. add (m / k.q) (m % k.q)) _ _ _ c.in_ok-push.ensures.items c.loop-b.invariant
    (c.sum_entry-sum.ensures ∙ sym (ap₂ add (div-mul-add a k.q b c.loop-b-test.true) (mod-mul-add a k.q b c.loop-b-test.true)))
    ∙ ap (first_sums k) next
