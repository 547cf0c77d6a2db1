use Rattle.std.proofs.Common.{◌≡◌, length, sym, ap, subst, ◌∙◌, arith}
use Rattle.ring_core.proofs.RowSteps.{whole_written}
use Rattle.flat_modules.specs.Flat.{are_flat, IsStandardBasis, IsInModule}
use Rattle.flat_modules.proofs.Lists.{longest}
use Rattle.flat_reduce.specs.steps.Turns.{Turns}
use Rattle.flat_reduce.specs.steps.Settled.{IsUnsettled}
use Rattle.popov_basis.specs.steps.Leading.{IsLeading}
use Rattle.popov_basis.proofs.StandardBasis.{leading_places, standard_basis}
use Rattle.popov_basis.proofs.settled.settled_standard.Goals as goal

pub cleared-requires-clause-full : goal.cleared-requires-clause-full
cleared-requires-clause-full g c =
    let r = g.F.Field.ops c.args.f.now in
    let image = c.settle_all.new.image in
    let b = longest r image in
    let leads = subst (IsLeading r image b.0) (sym c.deref_mut-2.ensures.value) (c.in_ok-list.ensures.leading b.0 b.1) in
    leads.full

pub cleared-requires-clause-apart : goal.cleared-requires-clause-apart
cleared-requires-clause-apart g c =
    let r = g.F.Field.ops c.args.f.now in
    let image = c.settle_all.new.image in
    let slot = c.settle_all.new.slot in
    let b = longest r image in
    let same : length c.args.image.now ≡ length image = omega arith in
    let settled = subst (λ n. IsUnsettled c.args.w n n slot image) same c.in_ok-settle_all.ensures.settled in
    let leads = subst (IsLeading r image b.0) (sym c.deref_mut-2.ensures.value) (c.in_ok-list.ensures.leading b.0 b.1) in
    λ i k li lk ne. leading_places c.args.w slot image settled r b.0 c.deref_mut-2.result.now leads i k li lk ne

pub cleared-requires-clause-ones : goal.cleared-requires-clause-ones
cleared-requires-clause-ones g c =
    let r = g.F.Field.ops c.args.f.now in
    let image = c.settle_all.new.image in
    let b = longest r image in
    let leads = subst (IsLeading r image b.0) (sym c.deref_mut-2.ensures.value) (c.in_ok-list.ensures.leading b.0 b.1) in
    λ k l. (leads.source k l).is.multiple.one

pub returns : goal.returns
returns g c =
    let f = c.args.f.now in
    let r = g.F.Field.ops f in
    let rows = c.args.image.now in
    let image = c.settle_all.new.image in
    let slot = c.settle_all.new.slot in
    let b = longest r image in
    let value = c.deref_mut-2.ensures.value in
    let list = c.deref_mut-2.result.now in
    let new = c.cleared.new.rows in
    let same : length rows ≡ length image = omega arith in
    let settled = subst (λ n. IsUnsettled c.args.w n n slot image) same c.in_ok-settle_all.ensures.settled in
    let leads = subst (IsLeading r image b.0) (sym value) (c.in_ok-list.ensures.leading b.0 b.1) in
    let basis = standard_basis r (g.F.Field.inv_of f) (g.met.F.Field.laws f) c.args.w (omega (arith, c.requires.width)) rows image c.args.left.now c.args.columns.now c.settle_all.new.left c.settle_all.new.columns list new slot b.0
    c.requires.images c.in_ok-cleared.ensures.flat (ap (are_flat r) value ∙ c.in_ok-list.ensures.flat)
    (subst (λ n. Turns r c.args.w n rows c.args.left.now c.args.columns.now image c.settle_all.new.left c.settle_all.new.columns) c.requires.same_len c.in_ok-settle_all.ensures.turned) settled leads b.1 c.in_ok-cleared.ensures.cleared in
    let out = c.in_ok-list.list in
    let count : length out.items ≡ out.len = omega (arith, out.ok.0) in
    let lent = ap length value in
    let kept = c.in_ok-cleared.ensures.cleared.len in
    subst (IsStandardBasis r c.args.w (IsInModule r c.args.w rows)) (sym (whole_written out.len new out.items (kept ∙ lent ∙ count) count)) basis
