use Rattle.std.proofs.Common.{◌≡◌, ◌-◌, ◌%◌, true, sym, ap, subst, ◌∙◌, arith}
use Rattle.flat_reduce.specs.steps.Turns.{IsRowAdded}
use Rattle.flat_reduce.proofs.Settling.{none_if}
use Rattle.flat_reduce.proofs.Reading.{read_elems}
use Rattle.flat_reduce.proofs.Reading.{read_len, read_coeff}
use Rattle.popov_basis.proofs.Clearing.{clear_zero, clear_free, clear_high, clear_added}
use Rattle.popov_basis.proofs.clear.clear_at.Goals as goal

pub coeff_at-c-requires : goal.coeff_at-c-requires
coeff_at-c-requires g c =
    read_elems (g.F.Field.ops c.args.f.now) c.args.rows.now c.requires.rows c.args.p _ c.index-rows-p.result c.requires.first c.as_slice.ensures

pub returns-then-equal-clause-cleared : goal.returns-then-equal-clause-cleared
returns-then-equal-clause-cleared g c =
    let f = c.args.f.now in
    let r = g.F.Field.ops f in
    let field = g.met.F.Field.laws f in
    let rows = c.args.rows.now in
    let same : r.same c.coeff_at-c.result r.zero ≡ true = cc in
    let value = c.coeff_at-c.ensures.value ∙ read_coeff r rows c.args.p c.args.t _ c.index-rows-p.result c.requires.first c.as_slice.ensures in
    clear_zero r (g.F.Field.inv_of f) field c.args.w c.args.p (omega (arith, c.requires.width)) c.args.slot.now rows c.requires.rows c.requires.naming c.args.t
    (sym value ∙ field.ring.equal.same_eq _ _ c.coeff_at-c.ensures.elem field.ring.closed.zero_in same)

pub returns-in_default-clause-cleared : goal.returns-in_default-clause-cleared
returns-in_default-clause-cleared g c =
    let f = c.args.f.now in
    clear_free (g.F.Field.ops f) (g.F.Field.inv_of f) (g.met.F.Field.laws f) c.args.w c.args.p (omega (arith, c.requires.width)) c.args.slot.now c.args.rows.now c.requires.rows c.requires.naming c.args.t
    (none_if _ (λ q e. c.in_default.not-Some q e))

pub overflow_sub-b : goal.overflow_sub-b
overflow_sub-b g c =
    let inside = c.requires.naming.names (c.args.t % c.args.w) c.in-Some.q c.in-Some.is in
    let len = read_len c.args.rows.now c.in-Some.q c.len-b.result c.index-rows-q.result inside c.len-b.ensures in
    let pos = c.requires.full c.in-Some.q inside in
    omega (arith, len, pos)

pub returns-in_ok-add_row-clause-cleared : goal.returns-in_ok-add_row-clause-cleared
returns-in_ok-add_row-clause-cleared g c =
    let f = c.args.f.now in
    let r = g.F.Field.ops f in
    let field = g.met.F.Field.laws f in
    let rows = c.args.rows.now in
    let q = c.in-Some.q in
    let inside = c.requires.naming.names (c.args.t % c.args.w) q c.in-Some.is in
    let len = read_len rows q c.len-b.result c.index-rows-q.result inside c.len-b.ensures in
    let value = c.coeff_at-c.ensures.value ∙ read_coeff r rows c.args.p c.args.t _ c.index-rows-p.result c.requires.first c.as_slice.ensures in
    clear_added r (g.F.Field.inv_of f) field c.args.w c.args.p (omega (arith, c.requires.width)) c.args.slot.now rows c.requires.rows c.requires.naming c.args.t q c.in-Some.is
    c.neg.result c.add_row.new.rows c.in_ok-add_row.ensures.flat c.requires.first (omega (arith, len)) (omega (arith, c.requires.place)) (ap r.is_elem c.neg.ensures.value ∙ field.ring.closed.neg_in _ c.coeff_at-c.ensures.elem)
    (c.neg.ensures.value ∙ ap r.neg value) (c.requires.ones q inside)
    (subst (λ n. IsRowAdded r c.args.p q (c.args.t - (n - 1)) c.neg.result rows c.add_row.new.rows) len c.in_ok-add_row.ensures.added)

pub returns-else-b-t-clause-cleared : goal.returns-else-b-t-clause-cleared
returns-else-b-t-clause-cleared g c =
    let f = c.args.f.now in
    let rows = c.args.rows.now in
    let q = c.in-Some.q in
    let inside = c.requires.naming.names (c.args.t % c.args.w) q c.in-Some.is in
    let len = read_len rows q c.len-b.result c.index-rows-q.result inside c.len-b.ensures in
    clear_high (g.F.Field.ops f) (g.F.Field.inv_of f) (g.met.F.Field.laws f) c.args.w c.args.p (omega (arith, c.requires.width)) c.args.slot.now rows c.requires.rows c.requires.naming c.args.t q c.in-Some.is
    (omega (arith, len, c.if-b-t.false))
