use Rattle.std.proofs.Common.{subst, arith}
use Rattle.flat_modules.specs.Flat.{IsNormal}
use Rattle.popov_basis.proofs.Members.{rest_is_zero}
use Rattle.popov_basis.proofs.flat.normal_flat.Goals as goal

pub returns-clause-member : goal.returns-clause-member
returns-clause-member g c =
    let f = c.args.f.now in
    let basis = c.args.basis.now in
    let n = c.in_ok-normal_rows.field-0 in
    let r = g.F.Field.ops f in
    let v = c.args.v.now in
    let normal = subst (λ u. IsNormal r basis.width u v n.quotients n.rest) c.as_slice.ensures
    (subst (λ w. IsNormal r w c.as_slice.result.now v n.quotients n.rest) c.width.ensures.value c.in_ok-normal_rows.ensures) in
    rest_is_zero r (g.F.Field.inv_of f) (g.met.F.Field.laws f) basis.width (omega (arith, c.width.ensures.positive)) basis.rows c.requires.rows c.requires.standard v c.requires.row n.quotients n.rest normal
