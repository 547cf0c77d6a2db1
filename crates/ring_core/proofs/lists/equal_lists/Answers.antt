use Rattle.std.proofs.Common.{◌≡◌, false, sym, arith}
use Rattle.ring_core.specs.Coeffs.{coeff}
use Rattle.ring_core.proofs.Coefficients.{same_below, differ_at, differ_in_length}
use Rattle.ring_core.proofs.lists.equal_lists.Goals as goal

pub returns-then-a-b : goal.returns-then-a-b
returns-then-a-b g c = sym (differ_in_length (g.K.Field.ops c.args.field.now) c.args.a.now c.args.b.now c.if-a-b.true)

pub returns-then-not-equal : goal.returns-then-not-equal
returns-then-not-equal g c =
    let r = g.K.Field.ops c.args.field.now in
    let a = c.args.a.now in
    let b = c.args.b.now in
    let i = c.loop-i.i in
    let differ : r.same (coeff r a i) (coeff r b i) ≡ false = cc in
    sym (differ_at r a b i c.loop-i-test.true c.if-a-b.false differ)

pub returns : goal.returns
returns g c =
    sym (same_below (g.K.Field.ops c.args.field.now) c.args.a.now c.args.b.now c.if-a-b.false (λ i l. c.loop-i.invariant i (omega arith)))
