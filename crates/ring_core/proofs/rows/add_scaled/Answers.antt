use Rattle.std.proofs.Common.{◌≡◌, true}
use Rattle.ring_core.proofs.RowSteps.{nothing_added}
use Rattle.ring_core.proofs.rows.add_scaled.Goals as goal

pub returns-then-equal-clause-added : goal.returns-then-equal-clause-added
returns-then-equal-clause-added g c =
    let r = g.K.Field.ops c.args.field.now in
    let ring = (g.met.K.Field.laws c.args.field.now).ring in
    let same : r.same c.args.c r.zero ≡ true = cc in
    nothing_added r ring c.args.i c.args.c c.args.row.now c.args.out.now (ring.equal.same_eq _ _ c.requires.factor ring.closed.zero_in same) c.requires.row c.requires.out
