use Rattle.std.proofs.Common.{◌≡◌, ◌+◌, ◌≤◌, length, take, sym, refl, ◌∙◌, ap, subst, subst₂, take_at, get_or-take, arith}
use Rattle.std.proofs.lemmas.List.{length-take-le}
use Rattle.ring_core.specs.Coeffs.{coeff, are_elems}
use Rattle.ring_core.proofs.Coefficients.{coeff-first_values, elems_take}
use Rattle.ring_core.proofs.FirstValues.{length-first_values}
use Rattle.linear_algebra.specs.Linear.{entry, IsSolution}
use Rattle.linear_algebra.proofs.RowLists.{row_len}
use Rattle.fq_linear.specs.steps.Elimination.{IsEliminated, IsLedTable, augmented}
use Rattle.fq_linear.proofs.Results.{solved, unsolved, reduced_as, not_both}
use Rattle.fq_linear.proofs.Solutions.{same_solution}
use Rattle.fq_linear.proofs.systems.solve.Goals as goal

pub reduce_target-requires-clause-row : goal.reduce_target-requires-clause-row
reduce_target-requires-clause-row g c = ap (are_elems (g.F.Field.ops c.args.f.now)) c.deref_mut.ensures.value ∙ c.in_ok-row.ensures.elems

pub reduce_target-requires-clause-zero : goal.reduce_target-requires-clause-zero
reduce_target-requires-clause-zero g c k =
    let r = g.F.Field.ops c.args.f.now in
    ap (λ u. coeff r u k) (c.deref_mut.ensures.value ∙ c.in_ok-row.ensures.value) ∙ coeff-first_values r c.len.result (λ i. r.zero) (λ i l. refl) k

pub reduce_target-requires-clause-row_len : goal.reduce_target-requires-clause-row_len
reduce_target-requires-clause-row_len g c =
    let r = g.F.Field.ops c.args.f.now in
    let rows = c.args.rows.now in
    let zeros = length-first_values c.len.result (λ i. r.zero) in
    omega (
      arith,
      ap length (c.deref_mut.ensures.value ∙ c.in_ok-row.ensures.value),
      zeros,
      c.len.ensures,
      c.deref.ensures.len,
      ap length c.deref.ensures.value,
      c.in_ok-table.ensures.table.index_len,
      row_len r rows.width c.args.target.now c.requires.target,
    )

pub reduce_target-requires-clause-table : goal.reduce_target-requires-clause-table
reduce_target-requires-clause-table g c =
    let r = g.F.Field.ops c.args.f.now in
    let table = c.in_ok-table.ensures.table in
    let wide : length c.deref_mut.result.now ≡ c.len-n.result + c.args.rows.now.width =
    omega (
      arith,
      ap length (c.deref_mut.ensures.value ∙ c.in_ok-row.ensures.value),
      length-first_values c.len.result (λ i. r.zero),
      c.len.ensures,
      c.deref.ensures.len,
      ap length c.deref.ensures.value,
      table.index_len,
    ) in
    subst (λ m. IsLedTable r m c.deref.result.now c.deref-2.result.now) (sym wide)
    (subst₂ (IsLedTable r (c.len-n.result + c.args.rows.now.width)) (sym c.deref.ensures.value) (sym c.deref-2.ensures.value) table)

pub returns-then-not-reduce_target : goal.returns-then-not-reduce_target
returns-then-not-reduce_target g c =
    let f = c.args.f.now in
    let r = g.F.Field.ops f in
    let rows = c.args.rows.now in
    let n = length rows.rows in
    let index = c.in_ok-table.table.index.items in
    let cells = c.in_ok-table.table.cells.items in
    let t = subst (λ m. IsEliminated r (m + rows.width) n (augmented r m (entry r rows.rows)) index cells) c.len-n.ensures c.in_ok-table.ensures in
    let wide : length c.deref_mut.result.now ≡ n + rows.width =
    omega (arith, ap length (c.deref_mut.ensures.value ∙ c.in_ok-row.ensures.value), length-first_values c.len.result (λ i. r.zero), c.len.ensures, c.deref.ensures.len, ap length c.deref.ensures.value, t.table.index_len) in
    let d = reduced_as r n _ (n + rows.width) _ index _ cells _ c.args.target.now c.reduce_target.new.row c.len-n.ensures wide c.deref.ensures.value c.deref-2.ensures.value c.reduce_target.ensures.reduced in
    unsolved r (g.F.Field.inv_of f) (g.met.F.Field.laws f) rows.width rows.rows index cells c.requires.rows t c.args.target.now c.reduce_target.new.row c.requires.target d
    (λ all. not_both (c.reduce_target.ensures.left.1 (λ k l. all k (omega (arith, l, c.len-n.ensures)))) c.if-not-reduce_target.true)

pub slice_bounds-neg_values-end : goal.slice_bounds-neg_values-end
slice_bounds-neg_values-end g c =
    let r = g.F.Field.ops c.args.f.now in
    let d = c.reduce_target.ensures.reduced in
    let same : length c.reduce_target.new.row ≡ c.in_ok-row.row.len = omega (arith, d.len, c.deref_mut.ensures.len) in
    let short : c.len-n.result ≤ length c.deref-3.result.now =
    omega (
      arith,
      ap length (c.deref-3.ensures.value ∙ take_at c.reduce_target.new.row _ _ same),
      d.len,
      ap length (c.deref_mut.ensures.value ∙ c.in_ok-row.ensures.value),
      length-first_values c.len.result (λ i. r.zero),
      c.len.ensures,
      c.deref.ensures.len,
      ap length c.deref.ensures.value,
      c.in_ok-table.ensures.table.index_len,
    ) in
    sym (length-take-le c.len-n.result c.deref-3.result.now short)

pub neg_values-requires : goal.neg_values-requires
neg_values-requires g c =
    let r = g.F.Field.ops c.args.f.now in
    let d = c.reduce_target.ensures.reduced in
    let same : length c.reduce_target.new.row ≡ c.in_ok-row.row.len = omega (arith, d.len, c.deref_mut.ensures.len) in
    elems_take r c.len-n.result c.deref-3.result.now (ap (are_elems r) (c.deref-3.ensures.value ∙ take_at c.reduce_target.new.row _ _ same) ∙ d.elems)

pub returns : goal.returns
returns g c =
    let f = c.args.f.now in
    let r = g.F.Field.ops f in
    let field = g.met.F.Field.laws f in
    let inv = g.F.Field.inv_of f in
    let rows = c.args.rows.now in
    let n = length rows.rows in
    let target = c.args.target.now in
    let row = c.reduce_target.new.row in
    let index = c.in_ok-table.table.index.items in
    let cells = c.in_ok-table.table.cells.items in
    let t = subst (λ m. IsEliminated r (m + rows.width) n (augmented r m (entry r rows.rows)) index cells) c.len-n.ensures c.in_ok-table.ensures in
    let wide : length c.deref_mut.result.now ≡ n + rows.width =
    omega (arith, ap length (c.deref_mut.ensures.value ∙ c.in_ok-row.ensures.value), length-first_values c.len.result (λ i. r.zero), c.len.ensures, c.deref.ensures.len, ap length c.deref.ensures.value, t.table.index_len) in
    let d = reduced_as r n _ (n + rows.width) _ index _ cells _ target row c.len-n.ensures wide c.deref.ensures.value c.deref-2.ensures.value c.reduce_target.ensures.reduced in
    let same : length row ≡ c.in_ok-row.row.len = omega (arith, c.reduce_target.ensures.reduced.len, c.deref_mut.ensures.len) in
    let read = c.deref-3.ensures.value ∙ take_at row _ _ same in
    let u = take c.len-n.result c.deref-3.result.now in
    let short : c.len-n.result ≤ length c.deref-3.result.now = omega (arith, ap length read, d.len, c.len-n.ensures) in
    let len = length-take-le c.len-n.result c.deref-3.result.now short ∙ c.len-n.ensures in
    let elems = elems_take r c.len-n.result c.deref-3.result.now (ap (are_elems r) read ∙ d.elems) in
    let found = solved r inv field rows.width rows.rows index cells c.requires.rows t target row c.requires.target d
    (λ k l. c.reduce_target.ensures.left.0 c.if-not-reduce_target.false k (omega (arith, l, c.len-n.ensures))) u len elems
    (λ i l. get_or-take c.len-n.result c.deref-3.result.now i r.zero (omega (arith, l, c.len-n.ensures)) ∙ ap (λ x. coeff r x i) read) in
    let solves = subst (IsSolution r rows.rows target) (sym c.in_ok-solution.ensures.value) found in
    record {
      solves = solves;
      only = λ x s. same_solution r inv field rows.width rows.rows c.requires.rows target x _ s solves;
    }
