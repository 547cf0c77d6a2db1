use Rattle.std.proofs.Common.{◌∷◌, [], ap, ◌∙◌, arith}
use Rattle.ring_core.specs.Twisted.{list_neg}
use Rattle.ore_divide.proofs.Links.{links_start, links_step, links_last}
use Rattle.ore_divide.proofs.euclid.last_links.Goals as goal

pub loop-before-init : goal.loop-before-init
loop-before-init g c =
    let k = c.args.field.now in
    let r = g.K.Field.ops k in
    record {
      left = c.requires.left;
      right = c.requires.right;
      links =
          links_start r (g.K.Field.inv_of k) _ (g.K.FrobField.frob_ops k) (g.met.K.Field.laws k) (g.met.K.FrobField.frob_laws k) c.args.a.now c.args.b.now
          c.in_ok-quotient.quotient.items c.in_ok-quotient.remainder.items _ _ _ _ _ c.requires.left c.requires.right c.in_ok-quotient.ensures
          c.in_ok-copy_list.ensures c.new.ensures.items (c.in_ok-single_list-2.ensures ∙ ap (λ x. x ∷ []) c.one-2.ensures.value)
          (c.in_ok-single_list.ensures ∙ ap (λ x. x ∷ []) c.one.ensures.value) (c.in_ok-neg_list.ensures.value ∙ ap (list_neg r) c.deref.ensures.value);
    }

pub loop-before-preserved : goal.loop-before-preserved
loop-before-preserved g c =
    let k = c.args.field.now in
    let held = c.loop-before.invariant in
    let before = c.loop-before.before in
    let after = c.loop-before.after in
    record {
      left = held.left;
      right = held.right;
      links =
          links_step _ _ _ _ (g.met.K.Field.laws k) (g.met.K.FrobField.frob_laws k) c.args.a.now c.args.b.now
          before.remainder.items after.remainder.items before.left.items after.left.items before.right.items after.right.items _ _ _
          held.left held.right held.links (omega (arith, c.loop-before-test.true, after.remainder.ok.0)) c.in_ok-next.ensures;
    }

pub returns : goal.returns
returns g c =
    let k = c.args.field.now in
    let held = c.loop-before.invariant in
    let before = c.loop-before.before in
    let after = c.loop-before.after in
    links_last _ _ _ _ (g.met.K.Field.laws k) (g.met.K.FrobField.frob_laws k) c.args.a.now c.args.b.now
    before.remainder.items after.remainder.items before.left.items after.left.items before.right.items after.right.items
    held.left held.right held.links (omega (arith, c.loop-before-test.false, after.remainder.ok.0))
