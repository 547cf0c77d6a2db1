use Rattle.std.proofs.Common.{length, subst, arith}
use Rattle.flat_modules.specs.Flat.{IsStandardBasis, IsInModule}
use Rattle.popov_basis.proofs.RelationBasis.{relations_basis}
use Rattle.popov_basis.proofs.relations.relation_rows.Goals as goal

pub returns : goal.returns
returns g c =
    let f = c.args.f.now in
    let r = g.F.Field.ops f in
    let m = c.args.m.now in
    let n = length m in
    let new = c.in_ok-standard_rows.field-0.items in
    relations_basis r (g.met.F.Field.laws f).ring c.args.w m c.in_ok-found.found.items new (omega (arith, c.if-m-eq0.false)) c.requires.rows c.in_ok-found.ensures.basis
    (subst (λ u. IsStandardBasis r n (IsInModule r n u) new) c.deref.ensures.value c.in_ok-standard_rows.ensures)
