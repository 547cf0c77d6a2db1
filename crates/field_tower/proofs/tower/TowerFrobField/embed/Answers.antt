use Rattle.std.proofs.Common.{◌-◌, ap, ◌∙◌}
use Rattle.residue_field.specs.Base.{ops_of}
use Rattle.residue_field.specs.Residue.{constant_at}
use Rattle.field_tower.specs.steps.Places.{stored}
use Rattle.field_tower.proofs.TopValues.{top-embed}
use Rattle.residue_field.specs.Top.{ops_of_top}
use Rattle.residue_field.proofs.TopFrob.{top_frob_field}
use Rattle.field_tower.proofs.tower.TowerFrobField.embed.Goals as goal

pub returns-clause-value : goal.returns-clause-value
returns-clause-value c =
    let b = c.args.b in
    c.constant.ensures (c.self.inside.n - 1)
    ∙ ap (λ t. stored (ops_of t.base) (t.n - 1) (constant_at (ops_of t.base) b)) c.self.view_is ∙ top-embed c.args.self.now b

pub returns-clause-elem : goal.returns-clause-elem
returns-clause-elem c = ap (ops_of_top c.args.self.now).is_elem (returns-clause-value c) ∙ (top_frob_field c.args.self.now).embed_in _ c.requires
