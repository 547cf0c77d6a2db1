use Rattle.std.proofs.Common.{◌≢◌, ◌+◌, ◌<◌, ◌≤◌, arith}
use Rattle.ring_core.proofs.Coefficients.{elems_set}
use Rattle.field_tower.proofs.Writes.{written, unwritten}
use Rattle.field_tower.proofs.residues.clear.Goals as goal

pub loop-i-preserved : goal.loop-i-preserved
loop-i-preserved g c =
    let r = g.F.Field.ops c.args.field.now in
    let i = c.loop-i.i in
    let before = c.loop-i.invariant in
    record {
      elems = elems_set r c.loop-i.out i _ before.elems c.zero.ensures.elem;
      cleared =
          λ j (l : j < i + 1).
          written r c.loop-i.out i _ (λ k. r.zero) j (omega arith) c.zero.ensures.value (λ (d : j ≢ i). before.cleared j (omega arith));
      kept = λ j (l : i + 1 ≤ j). let d : j ≢ i = omega arith in unwritten r c.loop-i.out i _ j d (before.kept j (omega arith));
    }
