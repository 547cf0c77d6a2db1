use Rattle.std.proofs.Common.{◌≡◌, ◌≢◌, ℕ, suc, ◌+◌, ◌<◌, ◌≤◌, length-set, ap, ◌∙◌, arith}
use Rattle.residue_field.specs.Prime.{prime_ops}
use Rattle.residue_field.specs.Digits.{digit}
use Rattle.field_tower.proofs.Writes.{written, unwritten}
use Rattle.field_tower.proofs.codes.digits.Goals as goal

next_place : (i j : ℕ) → i + suc j ≡ i + 1 + j
next_place i j = omega arith

pub loop-i-preserved : goal.loop-i-preserved
loop-i-preserved c =
    let r = prime_ops c.args.p in
    let i = c.loop-i.i in
    let before = c.loop-i.invariant in
    let width = before.width in
    let here : i + 0 ≡ i = omega arith in
    record {
      width = length-set c.loop-i.places i _ ∙ width;
      done =
          λ j (l : j < i + 1).
          written r c.loop-i.places i _ (digit c.args.p c.args.c) j (omega arith) (before.rest 0 ∙ ap (digit c.args.p c.args.c) here)
          (λ (d : j ≢ i). before.done j (omega arith));
      past = λ j (l : i + 1 ≤ j). let d : j ≢ i = omega arith in unwritten r c.loop-i.places i _ j d (before.past j (omega arith));
      rest = λ j. before.rest (suc j) ∙ ap (digit c.args.p c.args.c) (next_place i j);
    }
