use Rattle.std.proofs.Common.{◌-◌, ap, ◌∙◌}
use Rattle.residue_field.specs.TopElem.{top_places}
use Rattle.residue_field.specs.Base.{ops_of}
use Rattle.field_tower.proofs.TopValues.{top-is_elem}
use Rattle.field_tower.proofs.tower.TowerField.is_elem.Goals as goal

pub returns : goal.returns
returns c =
    let a = c.args.a in
    c.is_residue.ensures ∙ ap (λ t. (top_places (ops_of t.base) (t.n - 1)).is_elem a) c.self.view_is ∙ top-is_elem c.args.self.now a
