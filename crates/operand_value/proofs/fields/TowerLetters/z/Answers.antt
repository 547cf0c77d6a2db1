use Rattle.std.proofs.Common.{◌∙◌, ap}
use Rattle.residue_field.specs.Top.{ops_of_top}
use Rattle.operand_value.proofs.Elements.{letter_in}
use Rattle.operand_value.proofs.fields.TowerLetters.z.Goals as goal

pub returns-clause-elem : goal.returns-clause-elem
returns-clause-elem c =
    let t = c.args.self.now in
    ap (ops_of_top t).is_elem c.letter.ensures ∙ letter_in t
