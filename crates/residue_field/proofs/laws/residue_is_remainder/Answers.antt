use Rattle.ring_core.proofs.Coefficients.{elem_read, coeff_past}
use Rattle.residue_field.proofs.ResidueRing.{list_monic}
use Rattle.residue_field.proofs.Quotient.{residue_remainder, residue_only}
use Rattle.residue_field.proofs.laws.residue_is_remainder.Goals as goal

pub returns-clause-is : goal.returns-clause-is
returns-clause-is g c =
    let field = g.met.F.Field.laws c.args.field.now in
    let r = g.F.Field.ops c.args.field.now in
    let z = field.ring.closed.zero_in in
    residue_remainder r field.ring field.mul_comm _ _ (list_monic r z c.args.modulus.now c.requires.degree c.requires.modulus c.requires.monic)
    _ _ (elem_read r c.args.a.now z c.requires.elems) (coeff_past r c.args.a.now)

pub returns-clause-only : goal.returns-clause-only
returns-clause-only g c =
    let field = g.met.F.Field.laws c.args.field.now in
    let r = g.F.Field.ops c.args.field.now in
    let z = field.ring.closed.zero_in in
    residue_only r field.ring field.mul_comm _ _ (list_monic r z c.args.modulus.now c.requires.degree c.requires.modulus c.requires.monic)
    _ _ (elem_read r c.args.a.now z c.requires.elems) (coeff_past r c.args.a.now)
