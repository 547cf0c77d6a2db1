use Rattle.std.proofs.Common.{◌≡◌, ◌<◌, length, false, sym, arith}
use Rattle.ring_core.specs.Coeffs.{coeff}
use Rattle.field_tower.proofs.Stored.{zeros_all, zeros_miss}
use Rattle.field_tower.proofs.places.are_zero.Goals as goal

pub returns-then-not-equal : goal.returns-then-not-equal
returns-then-not-equal g c =
    let r = g.F.Field.ops c.args.field.now in
    let list = c.args.list.now in
    let i = c.loop-i.i in
    let differ : r.same (coeff r list i) r.zero ≡ false = cc in
    sym (zeros_miss r list i c.loop-i-test.true differ)

pub returns : goal.returns
returns g c =
    let r = g.F.Field.ops c.args.field.now in
    let list = c.args.list.now in
    sym (zeros_all r list (λ k (l : k < length list). c.loop-i.invariant k (omega arith)))
