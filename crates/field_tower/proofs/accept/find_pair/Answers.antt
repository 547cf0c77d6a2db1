use Rattle.std.proofs.Common.{◌≡◌, Some, None, MatchOption, subst}
use Rattle.field_tower.specs.declared.accept.LinearMap.TheVariants.{Power, Difference}
use Rattle.field_tower.specs.steps.Kernel.{HasLowKernel, IsInKernel}
use Rattle.field_tower.proofs.PairValues.{fixed_from, accepted}
use Rattle.field_tower.proofs.accept.find_pair.Goals as goal

pub factor_pair-requires-clause-power : goal.factor_pair-requires-clause-power
factor_pair-requires-clause-power g c =
    let algebra = c.args.algebra.now in
    let r = g.A.Constants.Field.ops (g.A.Algebra.constants_of algebra) in
    let t = g.A.Algebra.ops algebra in
    let coords = g.A.Algebra.coords_of algebra in
    let q = c.args.q in
    let is : c.in_ok-x-2.field-0 ≡ Some c.in-Some-2.x = c.in-Some-2.is in
    let found : IsInKernel r t coords q Difference c.in-Some-2.x =
    subst (λ o. MatchOption o (HasLowKernel r t coords q Difference) (IsInKernel r t coords q Difference)) is c.in_ok-x-2.ensures in
    fixed_from r q c.requires.constants t coords (g.met.A.Algebra.laws algebra) c.in-Some-2.x found.elem found.image

pub returns : goal.returns
returns g c =
    let algebra = c.args.algebra.now in
    let r = g.A.Constants.Field.ops (g.A.Algebra.constants_of algebra) in
    let t = g.A.Algebra.ops algebra in
    let coords = g.A.Algebra.coords_of algebra in
    let q = c.args.q in
    let none : c.in_ok-x.field-0 ≡ None = c.in_default.is in
    let last : c.in_ok-x-2.field-0 ≡ None = c.in_default-2.is in
    accepted r q c.requires.constants t coords (g.met.A.Algebra.laws algebra)
    (subst (λ o. MatchOption o (HasLowKernel r t coords q Power) (IsInKernel r t coords q Power)) none c.in_ok-x.ensures)
    (subst (λ o. MatchOption o (HasLowKernel r t coords q Difference) (IsInKernel r t coords q Difference)) last c.in_ok-x-2.ensures)
