use Rattle.std.proofs.Common.{◌≡◌, ◌+◌, ◌*◌, ◌<◌, length, slice_index_or, refl, sym, subst, ap, ap₂, ◌∙◌, arith}
use Rattle.ring_core.specs.Coeffs.{coeff}
use Rattle.ring_core.proofs.Coefficients.{elems_set, elem_read}
use Rattle.ring_core.proofs.Written.{written_more, next_place}
use Rattle.residue_field.specs.Base.{ops_of, size_of}
use Rattle.residue_field.proofs.BaseLaws.{base_ring}
use Rattle.field_tower.proofs.BaseValues.{below_size}
use Rattle.field_tower.proofs.BaseTables.{table_fits}
use Rattle.field_tower.proofs.RowValues.{member_below, read_zero, term_is, term_below}
use Rattle.field_tower.proofs.row_sums.add_tabled.Goals as goal

pub bounds-logs-c : goal.bounds-logs-c
bounds-logs-c c = subst (λ n. c.args.c < n) (sym c.requires.products.count) (below_size c.args.field.now c.args.c c.requires.factor)

pub bounds-logs-row : goal.bounds-logs-row
bounds-logs-row c =
    subst (λ n. slice_index_or c.args.row.now c.loop-j.j 0 < n) (sym c.requires.products.count) (member_below c.args.field.now c.args.row.now c.loop-j.j c.requires.row)

pub bounds-powers-log : goal.bounds-powers-log
bounds-powers-log c =
    c.requires.products.fits c.args.c _ (below_size c.args.field.now c.args.c c.requires.factor) (member_below c.args.field.now c.args.row.now c.loop-j.j c.requires.row)

pub bounds-table-out : goal.bounds-table-out
bounds-table-out c =
    let k = c.args.field.now in
    let row = c.args.row.now in
    let powers = c.args.powers.now in
    let logs = c.args.logs.now in
    let table = c.args.table.now in
    let old = slice_index_or c.loop-j.out (c.args.i + c.loop-j.j) 0 in
    let term = slice_index_or powers (slice_index_or logs c.args.c 0 + slice_index_or logs (slice_index_or row c.loop-j.j 0) 0) 0 in
    subst (λ q. old * q + term < length table) (sym c.q-q.ensures.value)
    (table_fits (size_of k) (ops_of k).add table old term c.requires.sums (member_below k c.loop-j.out (c.args.i + c.loop-j.j) c.loop-j.invariant.elems)
    (term_below k powers logs c.requires.products c.args.c row c.requires.factor c.requires.row c.loop-j.j))

pub loop-j-preserved : goal.loop-j-preserved
loop-j-preserved c =
    let k = c.args.field.now in
    let r = ops_of k in
    let before = c.args.out.now in
    let out = c.loop-j.out in
    let row = c.args.row.now in
    let powers = c.args.powers.now in
    let logs = c.args.logs.now in
    let table = c.args.table.now in
    let i = c.args.i in
    let j = c.loop-j.j in
    let closed = (base_ring k).closed in
    let room : i + j < length out = omega arith in
    let old = slice_index_or out (i + j) 0 in
    let was : old ≡ coeff r before (i + j) = read_zero k out (i + j) ∙ next_place r.zero i j _ before out c.loop-j.invariant.written in
    let term = slice_index_or powers (slice_index_or logs c.args.c 0 + slice_index_or logs (slice_index_or row j 0) 0) 0 in
    let value : slice_index_or table (old * c.q-q.result + term) 0 ≡ r.add (coeff r before (i + j)) (r.mul c.args.c (coeff r row j)) =
    ap (λ q. slice_index_or table (old * q + term) 0) c.q-q.ensures.value
    ∙ c.requires.sums.value old term (member_below k out (i + j) c.loop-j.invariant.elems)
    (term_below k powers logs c.requires.products c.args.c row c.requires.factor c.requires.row j)
    ∙ ap₂ r.add was (term_is k powers logs c.requires.products c.args.c row c.requires.factor c.requires.row j) in
    let sum_in = closed.add_in _ _ (elem_read r before closed.zero_in c.requires.out (i + j)) (closed.mul_in _ _ c.requires.factor (elem_read r row closed.zero_in c.requires.row j)) in
    record {
      elems = elems_set r out (i + j) _ c.loop-j.invariant.elems (ap r.is_elem value ∙ sum_in);
      written = written_more r.zero i j (i + j) (λ k. r.add (coeff r before (i + k)) (r.mul c.args.c (coeff r row k))) before out _ c.loop-j.invariant.written refl room value;
    }
