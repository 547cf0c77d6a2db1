use Rattle.popov_basis.proofs.RowBases.{one_row_basis}
use Rattle.popov_basis.proofs.laws.one_standard_row_basis.Goals as goal

pub returns : goal.returns
returns g c = λ f w m a b pos shape ha hb.
    one_row_basis (g.F.Field.ops f) (g.F.Field.inv_of f) (g.met.F.Field.laws f) w pos m a b shape ha hb
