use Rattle.std.proofs.Common.{subst, ◌∙◌, arith}
use Rattle.flat_modules.specs.Flat.{IsStandardBasis, IsInModule}
use Rattle.poly_reduce.specs.Matrices.{StandFor}
use Rattle.popov_basis.proofs.RowBases.{basis_from}
use Rattle.popov_basis.proofs.calls.standard.Goals as goal

pub returns-clause-basis : goal.returns-clause-basis
returns-clause-basis g c =
    let f = c.args.f.now in
    let r = g.F.Field.ops f in
    let m = c.args.rows.now in
    let flat = c.in_ok-flat.flat in
    let width = c.in_ok-flat.ensures.width in
    let found = c.in_ok-basis.basis in
    let same = c.in_ok-basis.ensures.width ∙ width in
    let rows = c.in_ok-unflatten.field-0 in
    basis_from r (g.F.Field.inv_of f) (g.met.F.Field.laws f) m.width (omega (arith, c.requires.width)) m.rows flat.rows c.in_ok-flat.ensures.rows rows.rows found.rows
    (subst (λ k. StandFor r k rows.rows found.rows) same c.in_ok-unflatten.ensures.rows)
    (subst (λ w. IsStandardBasis r w (IsInModule r w flat.rows) found.rows) width c.in_ok-basis.ensures.basis)
