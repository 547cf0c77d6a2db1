use Rattle.std.proofs.Common.{◌≤◌, length, arith}
use Rattle.field_tower.proofs.residue_ring.ResiduesAlgebra.dimension.Goals as goal

pub returns : goal.returns
returns g c =
    let degree : 2 ≤ length c.args.self.now.modulus.now = c.args.self.now.monic.degree in
    omega arith
