use Rattle.std.proofs.Common.{◌≡◌, ◌+◌, ◌-◌, ◌/◌, ◌%◌, ℕ, length, ap, subst, ◌∙◌, arith}
use Rattle.ring_core.specs.Coeffs.{coeff}
use Rattle.linear_algebra.specs.Linear.{row_at}
use Rattle.popov_basis.specs.steps.Division.{IsTermAdded}
use Rattle.flat_reduce.proofs.Settling.{none_if}
use Rattle.flat_reduce.proofs.Reading.{read_elems}
use Rattle.flat_reduce.proofs.Reading.{read_len}
use Rattle.flat_reduce.proofs.Reading.{read_row}
use Rattle.popov_basis.proofs.Dividing.{divide_free, divide_high, divide_taken}
use Rattle.popov_basis.proofs.divide.divide_at.Goals as goal

pub returns-in_default-clause-divided : goal.returns-in_default-clause-divided
returns-in_default-clause-divided g c =
    let f = c.args.f.now in
    divide_free (g.F.Field.ops f) (g.met.F.Field.laws f).ring c.args.w c.args.basis.now c.requires.rows (omega (arith, c.requires.width)) c.args.slot.now c.requires.naming c.args.by.now c.requires.by c.args.rest.now c.requires.rest c.args.t
    (none_if _ (λ q e. c.in_default.not-Some q e))

pub overflow_sub-b : goal.overflow_sub-b
overflow_sub-b g c =
    let inside = c.requires.naming.names (c.args.t % c.args.w) c.in-Some.q c.in-Some.is in
    let len = read_len c.args.basis.now c.in-Some.q c.len-b.result c.index-basis-q.result inside (c.len-b.ensures ∙ ap length c.index-basis-q.is) in
    let pos = c.requires.full c.in-Some.q inside in
    omega (arith, len, pos)

pub add_scaled-requires-clause-row : goal.add_scaled-requires-clause-row
add_scaled-requires-clause-row g c =
    let inside = c.requires.naming.names (c.args.t % c.args.w) c.in-Some.q c.in-Some.is in
    read_elems (g.F.Field.ops c.args.f.now) c.args.basis.now c.requires.rows c.in-Some.q _ c.index-basis-q-then-b-t.result inside (c.as_slice.ensures ∙ c.index-basis-q-then-b-t.is)

pub returns-in_ok-add_term-clause-divided : goal.returns-in_ok-add_term-clause-divided
returns-in_ok-add_term-clause-divided g c =
    let f = c.args.f.now in
    let r = g.F.Field.ops f in
    let basis = c.args.basis.now in
    let t = c.args.t in
    let q = c.in-Some.q in
    let rest = c.args.rest.now in
    let left = c.add_scaled.new.out in
    let inside = c.requires.naming.names (t % c.args.w) q c.in-Some.is in
    let len = read_len basis q c.len-b.result c.index-basis-q.result inside (c.len-b.ensures ∙ ap length c.index-basis-q.is) in
    let row = read_row basis q _ c.index-basis-q-then-b-t.result inside (c.as_slice.ensures ∙ c.index-basis-q-then-b-t.is) in
    let taken = subst (λ u. (k : ℕ) → coeff r left (t - (length (row_at basis q) - 1) + k) ≡ r.add (coeff r rest (t - (length (row_at basis q) - 1) + k)) (r.mul c.neg.result (coeff r u k))) row
    (subst (λ n. (k : ℕ) → coeff r left (t - (n - 1) + k) ≡ r.add (coeff r rest (t - (n - 1) + k)) (r.mul c.neg.result (coeff r c.as_slice.result.now k))) len c.add_scaled.ensures.added) in
    divide_taken r (g.met.F.Field.laws f).ring c.args.w basis c.requires.rows (omega (arith, c.requires.width)) c.args.slot.now c.requires.naming c.args.by.now c.requires.by rest c.requires.rest t q c.in-Some.is
    c.coeff_at-c.result c.neg.result c.coeff_at-c.ensures.elem c.coeff_at-c.ensures.value c.neg.ensures.value c.add_term.new.by c.in_ok-add_term.ensures.flat left (omega (arith, len)) (c.requires.ones q inside)
    (subst (λ n. IsTermAdded r q ((t - (n - 1)) / c.args.w) c.coeff_at-c.result c.args.by.now c.add_term.new.by) len c.in_ok-add_term.ensures.added)
    (λ k l. c.add_scaled.ensures.below k (omega (arith, l, len))) taken

pub returns-else-b-t-clause-divided : goal.returns-else-b-t-clause-divided
returns-else-b-t-clause-divided g c =
    let f = c.args.f.now in
    let q = c.in-Some.q in
    let inside = c.requires.naming.names (c.args.t % c.args.w) q c.in-Some.is in
    let len = read_len c.args.basis.now q c.len-b.result c.index-basis-q.result inside (c.len-b.ensures ∙ ap length c.index-basis-q.is) in
    divide_high (g.F.Field.ops f) (g.met.F.Field.laws f).ring c.args.w c.args.basis.now c.requires.rows (omega (arith, c.requires.width)) c.args.slot.now c.requires.naming c.args.by.now c.requires.by c.args.rest.now c.requires.rest c.args.t
    q c.in-Some.is (omega (arith, len, c.if-b-t.false))
