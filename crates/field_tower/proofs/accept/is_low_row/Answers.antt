use Rattle.std.proofs.Common.{◌≡◌, ◌≢◌, ◌<◌, ◌≤◌, ⊎_elim, true≢false, refl, sym, subst, ap, ap₂, ◌∙◌, arith}
use Rattle.std.proofs.lemmas.Bool.{cases_eq, cases_lt}
use Rattle.ring_core.specs.Ring.{IsElem}
use Rattle.linear_algebra.specs.Linear.{entry}
use Rattle.linear_algebra.proofs.RowLists.{rows_in}
use Rattle.field_tower.proofs.Kernels.{entry_past}
use Rattle.field_tower.proofs.accept.is_low_row.Goals as goal

pub equal-requires-clause-left : goal.equal-requires-clause-left
equal-requires-clause-left g c =
    let r = g.F.Field.ops c.args.field.now in
    let zero_in = (g.met.F.Field.laws c.args.field.now).ring.closed.zero_in in
    let rows = c.args.rows.now in
    subst (IsElem r) (sym (c.at-member.ensures.value r.zero)) (rows_in r zero_in rows.width rows.rows c.requires.rows c.args.i c.loop-k.k)

pub returns-then-not-equal : goal.returns-then-not-equal
returns-then-not-equal g c =
    let r = g.F.Field.ops c.args.field.now in
    let ring = (g.met.F.Field.laws c.args.field.now).ring in
    let from : c.args.low ≤ c.loop-k.k = omega arith in (
      (λ e k l. absurd (true≢false (sym e))),
      (λ low.
          absurd (true≢false
          (sym (ring.equal.same_refl r.zero ring.closed.zero_in)
          ∙ ap₂ r.same (sym (c.at-member.ensures.value r.zero ∙ low c.loop-k.k from)) (sym c.zero-zero.ensures.value)
          ∙ sym c.equal.ensures ∙ c.if-not-equal.true))),
    )

pub loop-k-preserved : goal.loop-k-preserved
loop-k-preserved g c =
    let r = g.F.Field.ops c.args.field.now in
    let ring = (g.met.F.Field.laws c.args.field.now).ring in
    let rows = c.args.rows.now in
    let member_in =
    subst (IsElem r) (sym (c.at-member.ensures.value r.zero)) (rows_in r ring.closed.zero_in rows.width rows.rows c.requires.rows c.args.i c.loop-k.k) in
    let same = ring.equal.same_eq _ _ member_in c.zero-zero.ensures.elem (sym c.equal.ensures ∙ c.if-not-equal.false) in
    λ j from below.
    ⊎_elim
    (λ (here : j ≡ c.loop-k.k).
    ap (entry r rows.rows c.args.i) here ∙ sym (c.at-member.ensures.value r.zero) ∙ same ∙ c.zero-zero.ensures.value)
    (λ (other : j ≢ c.loop-k.k). c.loop-k.invariant j from (omega arith))
    (cases_eq j c.loop-k.k)

pub returns : goal.returns
returns g c =
    let r = g.F.Field.ops c.args.field.now in
    let rows = c.args.rows.now in
    let end : rows.width ≤ c.loop-k.k = omega arith in (
      (λ e k l.
          ⊎_elim (λ (low : k < c.loop-k.k). c.loop-k.invariant k l low)
          (λ (past : c.loop-k.k ≤ k). entry_past r rows.width rows.rows c.requires.rows c.args.i k c.requires.row (omega arith))
          (cases_lt k c.loop-k.k)),
      (λ low. refl),
    )
