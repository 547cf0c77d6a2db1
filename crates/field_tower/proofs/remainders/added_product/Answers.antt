use Rattle.std.proofs.Common.{◌+◌, ◌*◌, ◌/◌, ◌≤◌, arith}
use Rattle.field_tower.proofs.Reciprocal.{taken_low, taken_high, product_rest, remainder_is}
use Rattle.field_tower.proofs.remainders.added_product.Goals as goal

pub overflow_add-sum : goal.overflow_add-sum
overflow_add-sum c =
    let p = c.args.p in
    let high = taken_high p c.args.c c.args.fraction c.args.x c.requires.small c.requires.factor c.requires.low c.requires.high in
    let low = taken_low p c.args.c c.args.fraction c.args.x c.requires.small c.requires.factor c.requires.low c.requires.high in
    let rest = product_rest p c.args.c c.args.fraction c.args.x c.requires.small c.requires.factor c.requires.low c.requires.high in
    let small : p ≤ 257 = c.requires.small in
    omega (arith, rest)

pub returns-then-sum-p : goal.returns-then-sum-p
returns-then-sum-p c =
    let p = c.args.p in
    let q = c.args.x * c.args.fraction / 65536 in
    let low = taken_low p c.args.c c.args.fraction c.args.x c.requires.small c.requires.factor c.requires.low c.requires.high in
    let rest = product_rest p c.args.c c.args.fraction c.args.x c.requires.small c.requires.factor c.requires.low c.requires.high in
    remainder_is p (c.args.a + c.args.c * c.args.x) q 0 _ (omega (arith, rest, low)) c.if-sum-p.true

pub returns-else-sum-p : goal.returns-else-sum-p
returns-else-sum-p c =
    let p = c.args.p in
    let q = c.args.x * c.args.fraction / 65536 in
    let low = taken_low p c.args.c c.args.fraction c.args.x c.requires.small c.requires.factor c.requires.low c.requires.high in
    let high = taken_high p c.args.c c.args.fraction c.args.x c.requires.small c.requires.factor c.requires.low c.requires.high in
    let rest = product_rest p c.args.c c.args.fraction c.args.x c.requires.small c.requires.factor c.requires.low c.requires.high in
    remainder_is p (c.args.a + c.args.c * c.args.x) q 1 _ (omega (arith, rest, low, c.if-sum-p.false)) (omega (arith, rest, low, high))
