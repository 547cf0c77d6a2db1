use Rattle.std.proofs.Common.{◌-◌, length, ap, ◌∙◌}
use Rattle.ring_core.specs.Coeffs.{coeff}
use Rattle.residue_field.specs.Base.{ops_of}
use Rattle.field_tower.specs.steps.Places.{stored}
use Rattle.field_tower.proofs.TopValues.{top-coords}
use Rattle.residue_field.specs.Top.{ops_of_top}
use Rattle.residue_field.proofs.TopFrob.{top_frob_field}
use Rattle.field_tower.proofs.tower.TowerFrobField.of_coords.Goals as goal

pub returns-clause-value : goal.returns-clause-value
returns-clause-value c =
    let list = c.args.list.now in
    c.residue_of.ensures
    ∙ ap (λ t. stored (ops_of t.base) (length list - 1) (coeff (ops_of t.base) list)) c.self.view_is ∙ top-coords c.args.self.now list c.requires.places

pub returns-clause-elem : goal.returns-clause-elem
returns-clause-elem c = ap (ops_of_top c.args.self.now).is_elem (returns-clause-value c) ∙ (top_frob_field c.args.self.now).of_coords_in _ c.requires.elems c.requires.places
