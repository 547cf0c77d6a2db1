use Rattle.std.proofs.Common.{sym, subst, ◌∙◌}
use Rattle.hom_space.specs.Full.{IsFullList}
use Rattle.kept_lists.proofs.Finding.{kept_at, full_found, constants_found}
use Rattle.kept_lists.proofs.kept.find.Goals as goal

pub returns-then-is_of-clause-full : goal.returns-then-is_of-clause-full
returns-then-is_of-clause-full g c =
    let k = c.args.k.now in
    let r = g.K.Field.ops k in
    let base = g.K.Base.Field.ops (g.K.FrobField.base_of k) in
    let f = g.K.FrobField.frob_ops k in
    let one = c.list-item.result in
    let kept = kept_at r base f c.args.kept.now c.deref-list-items.result.now c.loop-list.list-index one c.requires.full (c.deref-list-items.ensures.value ∙ c.kept.view_is) c.loop-list-test.true c.list-item.is in
    subst (IsFullList r base f c.args.phi.now c.args.psi.now) (sym c.as_slice.ensures)
    (full_found r (g.K.Field.inv_of k) base f (g.met.K.Field.laws k) c.args.phi.now c.args.psi.now c.requires.source c.requires.target one kept (sym c.is_of.ensures ∙ c.if-is_of.true))

pub returns-then-is_of-clause-constants : goal.returns-then-is_of-clause-constants
returns-then-is_of-clause-constants g c =
    let k = c.args.k.now in
    let r = g.K.Field.ops k in
    let base = g.K.Base.Field.ops (g.K.FrobField.base_of k) in
    let f = g.K.FrobField.frob_ops k in
    let one = c.list-item.result in
    let kept = kept_at r base f c.args.kept.now c.deref-list-items.result.now c.loop-list.list-index one c.requires.full (c.deref-list-items.ensures.value ∙ c.kept.view_is) c.loop-list-test.true c.list-item.is in
    constants_found r (g.K.Field.inv_of k) base f (g.met.K.Field.laws k) c.args.phi.now c.args.psi.now c.requires.source c.requires.target one kept (sym c.is_of.ensures ∙ c.if-is_of.true)
