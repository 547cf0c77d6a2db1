use Rattle.std.proofs.Common.{◌-◌, ap, ◌∙◌}
use Rattle.residue_field.specs.Base.{ops_of}
use Rattle.residue_field.specs.Residue.{constant_at}
use Rattle.field_tower.specs.steps.Places.{stored}
use Rattle.field_tower.proofs.TopValues.{top-zero}
use Rattle.residue_field.specs.Top.{ops_of_top}
use Rattle.residue_field.proofs.TopLaws.{top_ring}
use Rattle.field_tower.proofs.tower.TowerField.zero.Goals as goal

pub returns-clause-value : goal.returns-clause-value
returns-clause-value c =
    let inside = c.self.inside in
    c.constant.ensures (inside.n - 1) ∙ ap (λ x. stored (ops_of inside.base) (inside.n - 1) (constant_at (ops_of inside.base) x)) c.zero.ensures.value
    ∙ ap (λ t. stored (ops_of t.base) (t.n - 1) (constant_at (ops_of t.base) (ops_of t.base).zero)) c.self.view_is ∙ top-zero c.args.self.now

pub returns-clause-elem : goal.returns-clause-elem
returns-clause-elem c = ap (ops_of_top c.args.self.now).is_elem (returns-clause-value c) ∙ (top_ring c.args.self.now).closed.zero_in
