use Rattle.std.proofs.Common.{◌≡◌, length, subst, arith}
use Rattle.fq_poly.specs.Poly.{poly_ops}
use Rattle.flat_modules.specs.Flat.{IsBasis, IsRelationOf, IsOfReduction}
use Rattle.flat_reduce.proofs.Settling.{empty_row}
use Rattle.poly_reduce.specs.Matrices.{StandFor, IsRowBasis, IsRelationRow}
use Rattle.poly_reduce.proofs.Bases.{kernel_from, kernel_none}
use Rattle.poly_reduce.proofs.Sources.{source_from, source_none}
use Rattle.poly_reduce.proofs.calls.kernel.Goals as goal

pub returns-then-len-eq0-clause-basis : goal.returns-then-len-eq0-clause-basis
returns-then-len-eq0-clause-basis g c =
    let f = c.args.f.now in
    kernel_none (g.F.Field.ops f) (g.F.Field.inv_of f) (g.met.F.Field.laws f) c.args.m.now.width c.args.m.now.rows c.new.result.rows (empty_row c.args.m.now.rows (omega arith)) c.new.ensures.rows

pub returns-clause-basis : goal.returns-clause-basis
returns-clause-basis g c =
    let f = c.args.f.now in
    let r = g.F.Field.ops f in
    let p = poly_ops r in
    let m = c.args.m.now in
    let flat = c.in_ok-flat.flat in
    let stands = c.in_ok-flat.ensures.rows in
    let width = c.in_ok-flat.ensures.width in
    let many : length flat.rows ≡ length m.rows = stands.count in
    let found = c.in_ok-rows.rows in
    let wide : found.width ≡ length flat.rows = omega (arith, c.in_ok-rows.ensures.width, many) in
    let rows = subst (λ k. StandFor r k c.in_ok-unflatten.field-0.rows found.rows) wide c.in_ok-unflatten.ensures.rows in
    let basis = subst (λ w. IsBasis r (length flat.rows) (IsRelationOf r w flat.rows) found.rows) width c.in_ok-rows.ensures.basis in
    subst (λ k. IsRowBasis p k (IsRelationRow p m.width m.rows) c.in_ok-unflatten.field-0.rows) many
    (kernel_from r (g.F.Field.inv_of f) (g.met.F.Field.laws f) m (omega (arith, c.requires.width)) flat.rows stands (omega (arith, many)) c.in_ok-unflatten.field-0.rows found.rows rows basis)

pub returns-then-len-eq0-clause-source : goal.returns-then-len-eq0-clause-source
returns-then-len-eq0-clause-source g c =
    let f = c.args.f.now in
    source_none (g.F.Field.ops f) (g.F.Field.inv_of f) (g.met.F.Field.laws f) c.args.m.now c.new.result.rows (empty_row c.args.m.now.rows (omega arith)) c.new.ensures.rows

pub returns-clause-source : goal.returns-clause-source
returns-clause-source g c =
    let f = c.args.f.now in
    let r = g.F.Field.ops f in
    let m = c.args.m.now in
    let flat = c.in_ok-flat.flat in
    let stands = c.in_ok-flat.ensures.rows in
    let many : length flat.rows ≡ length m.rows = stands.count in
    let found = c.in_ok-rows.rows in
    let wide : found.width ≡ length flat.rows = omega (arith, c.in_ok-rows.ensures.width, many) in
    source_from r (g.F.Field.inv_of f) (g.met.F.Field.laws f) m (omega (arith, c.requires.width)) flat.rows stands (omega (arith, many)) c.in_ok-unflatten.field-0.rows found.rows
    (subst (λ k. StandFor r k c.in_ok-unflatten.field-0.rows found.rows) wide c.in_ok-unflatten.ensures.rows)
    (subst (λ w. IsOfReduction r w flat.rows found.rows) c.in_ok-flat.ensures.width c.in_ok-rows.ensures.source)
