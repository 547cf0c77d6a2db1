use Rattle.std.proofs.Common.{sym, ap, subst, ◌∙◌}
use Rattle.ring_core.specs.Ring.{IsElem}
use Rattle.field_tower.proofs.TopValues.{ops-inside}
use Rattle.residue_field.specs.Top.{ops_of_top}
use Rattle.residue_field.proofs.TopLaws.{top_ring}
use Rattle.field_tower.proofs.tower.TowerField.neg.Goals as goal

pub neg-requires-clause-elem : goal.neg-requires-clause-elem
neg-requires-clause-elem c =
    subst (λ r. IsElem r c.args.a) (sym (ops-inside _ c.args.self.now c.self.view_is _ c.deref.ensures.value)) c.requires

pub returns-clause-value : goal.returns-clause-value
returns-clause-value c =
    c.neg.ensures ∙ ap (λ r. r.neg c.args.a) (ops-inside _ c.args.self.now c.self.view_is _ c.deref.ensures.value)

pub returns-clause-elem : goal.returns-clause-elem
returns-clause-elem c = ap (ops_of_top c.args.self.now).is_elem (returns-clause-value c) ∙ (top_ring c.args.self.now).closed.neg_in _ c.requires
