use Rattle.std.proofs.Common.{◌-◌, ◌<◌, ◌≤◌, length, ◌∙◌, arith}
use Rattle.ring_core.specs.Coeffs.{coeff}
use Rattle.field_tower.proofs.Rows.{next_row, all_rows}
use Rattle.field_tower.proofs.residues.multiply.Goals as goal

pub loop-i-preserved : goal.loop-i-preserved
loop-i-preserved g c =
    let r = g.F.Field.ops c.args.field.now in
    let before = c.loop-i.invariant in
    let done = c.step.ensures in
    record {
      elems = done.elems;
      values =
          λ j (l : j < (length c.args.modulus.now - 1)).
          done.values j (omega arith)
          ∙ next_row r (length c.args.modulus.now - 2) (coeff r c.args.modulus.now) (coeff r c.args.a.now) (coeff r c.args.b.now) _ (length c.args.modulus.now - 1) c.loop-i.i j (omega arith) (omega arith) (omega arith) l c.coeff_at.ensures.value before.values;
      kept = λ j (l : (length c.args.modulus.now - 1) ≤ j). done.kept j (omega arith) ∙ before.kept j l;
    }

pub returns : goal.returns
returns g c =
    let field = g.met.F.Field.laws c.args.field.now in
    let r = g.F.Field.ops c.args.field.now in
    let last = c.loop-i.invariant in
    record {
      values =
          λ j (l : j < length c.args.modulus.now - 1).
          last.values j (omega arith)
          ∙ all_rows r field.ring field.mul_comm c.args.modulus.now c.args.a.now c.args.b.now c.requires.degree c.requires.modulus c.requires.left c.requires.right c.requires.left_past c.requires.right_past (length c.args.modulus.now - 1) c.loop-i.i j (omega arith) (omega arith);
      kept = λ j (l : length c.args.modulus.now - 1 ≤ j). last.kept j (omega arith);
      elems = last.elems;
    }
