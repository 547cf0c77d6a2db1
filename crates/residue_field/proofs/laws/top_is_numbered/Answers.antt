use Rattle.residue_field.proofs.TopLaws.{top_numbered}
use Rattle.residue_field.proofs.laws.top_is_numbered.Goals as goal

pub returns : goal.returns
returns c = λ t. top_numbered t
