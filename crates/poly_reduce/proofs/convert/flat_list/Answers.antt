use Rattle.std.proofs.Common.{◌≡◌, ◌<◌, [], ◌∷◌, ◌++◌, length, ap, ◌∙◌, arith}
use Rattle.ring_core.specs.Coeffs.{coeff, is_canonical}
use Rattle.linear_algebra.specs.Linear.{row_at, is_row}
use Rattle.linear_algebra.proofs.RowLists.{rows_at}
use Rattle.fq_poly.specs.Poly.{poly_ops}
use Rattle.flat_modules.specs.Flat.{are_flat}
use Rattle.flat_reduce.proofs.Pushed.{push_each, push_len, flat_push}
use Rattle.flat_reduce.proofs.Reading.{read_row}
use Rattle.poly_reduce.specs.Matrices.{member}
use Rattle.poly_reduce.proofs.convert.flat_list.Goals as goal

pub flatten_row-requires-clause-row : goal.flatten_row-requires-clause-row
flatten_row-requires-clause-row g c =
    let p = poly_ops (g.F.Field.ops c.args.f.now) in
    let i = c.loop-i.i in
    let inside : i < length c.args.rows.now = omega arith in
    ap (is_row p c.args.w) (read_row c.args.rows.now i _ c.index-rows-i.result inside (c.as_slice.ensures ∙ c.index-rows-i.is)) ∙ rows_at p c.args.w c.args.rows.now c.requires.rows i inside

pub loop-i-preserved : goal.loop-i-preserved
loop-i-preserved g c =
    let r = g.F.Field.ops c.args.f.now in
    let rows = c.args.rows.now in
    let before = c.loop-i.invariant in
    let list = c.loop-i.list.items in
    let x = c.from_vec.result in
    let i = c.loop-i.i in
    let pushed : c.push.new.self.items ≡ list ++ x ∷ [] = c.in_ok-push.ensures.items in
    let read = read_row rows i _ c.index-rows-i.result (omega arith) (c.as_slice.ensures ∙ c.index-rows-i.is) in
    record {
      count = push_len list _ x i pushed before.count;
      flat = ap (are_flat r) pushed ∙ flat_push r list x before.flat (ap (is_canonical r) c.from_vec.ensures ∙ c.in_ok-flatten_row.ensures.flat);
      is = λ k t l. push_each (λ k u. coeff r u t ≡ member r c.args.w (row_at rows k) t) list _ x i pushed before.count (λ k b. before.is k t b)
          (ap (λ u. coeff r u t) c.from_vec.ensures ∙ c.in_ok-flatten_row.ensures.is t ∙ ap (λ u. member r c.args.w u t) read) k l;
    }
