use Rattle.std.proofs.Common.{◌≡◌, ◌+◌, ◌-◌, suc, length, sym, ap, subst, ◌∙◌, arith}
use Rattle.ring_core.proofs.Coefficients.{values_more}
use Rattle.field_tower.specs.steps.Places.{IsStored, stored_ops}
use Rattle.field_tower.specs.steps.Lanes.{letter_row}
use Rattle.field_tower.proofs.Stored.{elem_of}
use Rattle.field_tower.proofs.LetterRows.{power_at, letter_stored, letter_next}
use Rattle.field_tower.proofs.letters.letter_rows.Goals as goal

pub times_letter-x-requires-clause-elem : goal.times_letter-x-requires-clause-elem
unfolding letter_row
times_letter-x-requires-clause-elem g c =
    let r = g.F.Field.ops c.args.field.now in
    let field = g.met.F.Field.laws c.args.field.now in
    let modulus = c.args.modulus.now in
    elem_of r modulus c.loop-t.x
    (subst (IsStored r (length modulus - 2)) (sym c.loop-t.invariant.row)
    (letter_stored r field.ring field.mul_comm modulus c.requires.monic (length modulus - 1 + c.loop-t._t)))

pub loop-t-preserved : goal.loop-t-preserved
unfolding letter_row
loop-t-preserved g c =
    let r = g.F.Field.ops c.args.field.now in
    let field = g.met.F.Field.laws c.args.field.now in
    let modulus = c.args.modulus.now in
    let t = c.loop-t._t in
    let next : suc (length modulus - 1 + t) ≡ length modulus - 1 + (t + 1) = omega arith in
    record {
      row =
          c.times_letter-x.ensures
          ∙ letter_next r field.ring field.mul_comm modulus c.requires.monic (length modulus - 1 + t) c.loop-t.x c.loop-t.invariant.row
          ∙ ap (power_at r modulus) next;
      rows = values_more (stored_ops r modulus) t (letter_row r modulus) _ _ _ c.in_ok-push.ensures.items c.loop-t.invariant.rows c.loop-t.invariant.row;
    }
