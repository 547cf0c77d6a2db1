use Rattle.std.proofs.Common.{sym, ap, subst, ◌∙◌}
use Rattle.ring_core.specs.Ring.{IsElem}
use Rattle.field_tower.proofs.TopValues.{ops-inside}
use Rattle.residue_field.specs.Top.{ops_of_top}
use Rattle.residue_field.proofs.TopLaws.{top_ring}
use Rattle.field_tower.proofs.tower.TowerField.add.Goals as goal

pub add-requires-clause-left : goal.add-requires-clause-left
add-requires-clause-left c =
    subst (λ r. IsElem r c.args.a) (sym (ops-inside _ c.args.self.now c.self.view_is _ c.deref.ensures.value)) c.requires.left

pub add-requires-clause-right : goal.add-requires-clause-right
add-requires-clause-right c =
    subst (λ r. IsElem r c.args.b) (sym (ops-inside _ c.args.self.now c.self.view_is _ c.deref.ensures.value)) c.requires.right

pub returns-clause-value : goal.returns-clause-value
returns-clause-value c =
    c.add.ensures ∙ ap (λ r. r.add c.args.a c.args.b) (ops-inside _ c.args.self.now c.self.view_is _ c.deref.ensures.value)

pub returns-clause-elem : goal.returns-clause-elem
returns-clause-elem c = ap (ops_of_top c.args.self.now).is_elem (returns-clause-value c) ∙ (top_ring c.args.self.now).closed.add_in _ _ c.requires.left c.requires.right
