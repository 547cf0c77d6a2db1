use Rattle.flat_modules.specs.Flat.{IsInModule}
use Rattle.flat_modules.proofs.OneBasis.{one_standard}
use Rattle.popov_basis.proofs.laws.one_standard_basis.Goals as goal

pub returns : goal.returns
returns g c = λ f w rows a b pos ha hb.
    one_standard (g.F.Field.ops f) (g.F.Field.inv_of f) (g.met.F.Field.laws f) w pos (IsInModule (g.F.Field.ops f) w rows) a b ha hb
