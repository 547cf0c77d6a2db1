use Rattle.std.proofs.Common.{◌≤◌, arith}
use Rattle.central_coords.proofs.Places.{extension}
use Rattle.central_coords.proofs.Leading.{no_coordinates}
use Rattle.central_coords.proofs.highest.highest_coordinate.Goals as goal

pub returns : goal.returns
returns g c =
    let k = c.args.k.now in
    let o = extension (g.met.K.Field.laws k) (g.met.K.Base.Field.laws (g.K.FrobField.base_of k)) (g.met.K.FrobField.frob_laws k) in
    no_coordinates o c.args.c c.requires (λ i low. let any : c.loop-j.j ≤ i = omega arith in c.loop-j.invariant i any low)
