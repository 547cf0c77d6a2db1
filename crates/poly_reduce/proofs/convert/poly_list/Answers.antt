use Rattle.std.proofs.Common.{◌≡◌, [], ◌∷◌, ◌++◌, sym, ap, ◌∙◌, arith}
use Rattle.ring_core.specs.Coeffs.{coeff}
use Rattle.linear_algebra.specs.Linear.{row_at, are_rows}
use Rattle.linear_algebra.proofs.RowLists.{rows_push}
use Rattle.fq_poly.specs.Poly.{poly_ops}
use Rattle.flat_reduce.proofs.Pushed.{push_each, push_len}
use Rattle.flat_reduce.proofs.Reading.{read_elems, read_row}
use Rattle.poly_reduce.specs.Matrices.{member}
use Rattle.poly_reduce.proofs.convert.poly_list.Goals as goal

pub unflatten_row-requires-clause-flat : goal.unflatten_row-requires-clause-flat
unflatten_row-requires-clause-flat g c =
    read_elems (g.F.Field.ops c.args.f.now) c.args.flats.now c.requires.flats c.loop-i.i _ c.index-flats-i.result (omega arith) (c.as_slice.ensures ∙ c.index-flats-i.is)

pub loop-i-preserved : goal.loop-i-preserved
loop-i-preserved g c =
    let r = g.F.Field.ops c.args.f.now in
    let flats = c.args.flats.now in
    let before = c.loop-i.invariant in
    let rows = c.loop-i.rows.items in
    let x = c.in_ok-unflatten_row.field-0 in
    let i = c.loop-i.i in
    let pushed : c.push.new.self.items ≡ rows ++ x ∷ [] = c.in_ok-push.ensures.items in
    let read = read_row flats i _ c.index-flats-i.result (omega arith) (c.as_slice.ensures ∙ c.index-flats-i.is) in
    record {
      count = push_len rows _ x i pushed before.count;
      shape = ap (are_rows (poly_ops r) c.args.w) pushed ∙ rows_push (poly_ops r) c.args.w rows x before.shape c.in_ok-unflatten_row.ensures.row;
      is = λ k t l. push_each (λ k u. coeff r (row_at flats k) t ≡ member r c.args.w u t) rows _ x i pushed before.count (λ k b. before.is k t b)
          (ap (λ u. coeff r u t) (sym read) ∙ c.in_ok-unflatten_row.ensures.is t) k l;
    }
