use Rattle.std.proofs.Common.{◌++◌, [], length, ap, ◌∙◌, arith}
use Rattle.std.proofs.lemmas.List.{get_or_default}
use Rattle.ring_core.specs.Coeffs.{first_values}
use Rattle.hom_space.specs.steps.Shifts.{shifted_row, shift_count}
use Rattle.hom_space.proofs.Shifts.{more_shifts}
use Rattle.hom_space.proofs.from_full.shifts.Goals as goal

pub loop-i-preserved : goal.loop-i-preserved
loop-i-preserved g c =
    let r = g.K.Field.ops c.args.k.now in
    let f = g.K.FrobField.frob_ops c.args.k.now in
    let base = g.K.Base.Field.ops (g.K.FrobField.base_of c.args.k.now) in
    let d = c.args.d in
    let full = c.args.full.now in
    let i = c.loop-i.i in
    let before = c.loop-i.rows.rows in
    let read = c.as_slice.ensures ∙ c.index-full-i.is ∙ get_or_default full i c.index-full-i.result [] (omega arith) in
    record {
      width = c.push_shifts.ensures.width ∙ c.loop-i.invariant.width;
      rows = more_shifts r base f d i full before c.push_shifts.new.rows.rows c.loop-i.invariant.rows
          (c.in_ok-push_shifts.ensures.rows ∙ ap (λ u. before ++ first_values (shift_count f.degree d (length u)) (shifted_row r base f d u)) read);
    }
