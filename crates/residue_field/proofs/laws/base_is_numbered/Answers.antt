use Rattle.residue_field.proofs.BaseLaws.{base_numbered}
use Rattle.residue_field.proofs.laws.base_is_numbered.Goals as goal

pub returns : goal.returns
returns c = λ k. base_numbered k
