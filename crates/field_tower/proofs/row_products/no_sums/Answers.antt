use Rattle.field_tower.proofs.AddedRows.{all_zero}
use Rattle.field_tower.proofs.row_products.no_sums.Goals as goal

pub returns-clause-values : goal.returns-clause-values
returns-clause-values g c = all_zero (g.F.Field.ops c.args.field.now) 32 c.zero.result c.zero.ensures.value
