use Rattle.std.proofs.Common.{◌≡◌, length, ap, ◌∙◌, arith}
use Rattle.std.proofs.lemmas.List.{length_push}
use Rattle.ring_core.specs.Coeffs.{coeff, are_elems}
use Rattle.linear_algebra.specs.Linear.{row_at, are_rows}
use Rattle.linear_algebra.proofs.RowLists.{row_elems, rows_at}
use Rattle.hom_space.proofs.HomRows.{read_more}
use Rattle.hom_space.proofs.reading.read_rows.Goals as goal

pub row_list-requires-clause-rows : goal.row_list-requires-clause-rows
row_list-requires-clause-rows g c = ap (λ y. are_rows (g.K.Base.Field.ops y) c.args.rows.now.width c.args.rows.now.rows) c.base.ensures ∙ c.requires

pub of_coordinates-requires : goal.of_coordinates-requires
of_coordinates-requires g c =
    let base = g.K.Base.Field.ops (g.K.FrobField.base_of c.args.k.now) in
    let rows = c.args.rows.now in
    let i = c.loop-i.i in
    ap (are_elems base) (c.deref.ensures.value ∙ c.in_ok-row.ensures) ∙ row_elems base rows.width (row_at rows.rows i) (rows_at base rows.width rows.rows c.requires i (omega (arith, c.len-i-end.ensures)))

pub loop-i-preserved : goal.loop-i-preserved
loop-i-preserved g c =
    let base = g.K.Base.Field.ops (g.K.FrobField.base_of c.args.k.now) in
    let list = c.loop-i.list.items in
    let u = c.in_ok-of_coordinates.field-0 in
    let made = c.in_ok-of_coordinates.ensures in
    let long : length list ≡ c.loop-i.i = c.loop-i.invariant.count in
    record {
      count = ap length c.in_ok-push.ensures.items ∙ length_push list u ∙ omega (arith, long);
      each = read_more _ _ _ c.args.rows.now.rows list c.push.new.self.items u c.loop-i.i c.in_ok-push.ensures.items long c.loop-i.invariant.each
          (record { canonical = made.elem; coords = λ t. made.coords t ∙ ap (λ v. coeff base v t) (c.deref.ensures.value ∙ c.in_ok-row.ensures) });
    }

pub returns : goal.returns
returns g c =
    let long = c.loop-i.invariant.count in
    record { count = omega (arith, long, c.len-i-end.ensures); each = λ j low. c.loop-i.invariant.each j (omega (arith, low, long)) }
