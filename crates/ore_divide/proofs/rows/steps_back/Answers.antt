use Rattle.std.proofs.Common.{◌<◌, arith}
use Rattle.std.proofs.Math.Nat.{mod-lt}
use Rattle.twist_theory.proofs.Onto.{frob_back}
use Rattle.ore_divide.proofs.rows.steps_back.Goals as goal

pub returns : goal.returns
returns g c =
    let k = c.args.field.now in
    let laws = g.met.K.FrobField.frob_laws k in
    let n = c.degree-n.result in
    let pos : 0 < n = omega (arith, c.degree-n.ensures) in
    λ x p. frob_back (g.K.Field.ops k) _ (g.K.FrobField.frob_ops k) laws x c.args.i n p c.degree-n.ensures (mod-lt c.args.i pos)
