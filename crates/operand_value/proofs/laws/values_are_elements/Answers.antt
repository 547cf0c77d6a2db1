use Rattle.operand_value.proofs.Closed.{top_list_in, top_sum_in}
use Rattle.operand_value.proofs.laws.values_are_elements.Goals as goal

pub returns-clause-list : goal.returns-clause-list
returns-clause-list c = top_list_in

pub returns-clause-twisted : goal.returns-clause-twisted
returns-clause-twisted c = top_sum_in
