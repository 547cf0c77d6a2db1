use Rattle.std.proofs.Common.{◌≡◌, ◌<◌, ◌+◌, ◌*◌, ◌/◌, ◌%◌, ℕ, length, subst, ◌∙◌, arith}
use Rattle.linear_algebra.specs.Linear.{entry}
use Rattle.flat_reduce.specs.steps.Turns.{Turns}
use Rattle.flat_reduce.proofs.Pushed.{unsettled_start}
use Rattle.flat_reduce.proofs.Reduction.{reduction_listed}
use Rattle.flat_reduce.proofs.reduce.settled_inverse.Goals as goal

pub settle_all-requires-clause-unsettled : goal.settle_all-requires-clause-unsettled
settle_all-requires-clause-unsettled g c = unsettled_start c.args.w c.args.slot.now c.args.image.now c.requires.free

pub returns : goal.returns
returns g c =
    let f = c.args.f.now in
    let r = g.F.Field.ops f in
    let m = c.args.image.now in
    let done = c.in_ok-settle_all.ensures in
    let image = c.settle_all.new.image in
    let left = c.settle_all.new.left in
    let columns = c.settle_all.new.columns in
    let back = c.in_ok-from_columns.ensures in
    let same : length image ≡ length m = omega arith in
    let same_left : length left ≡ length m = omega (arith, c.requires.same_len) in
    let many : length columns ≡ length m = omega (arith, c.requires.same_columns) in
    reduction_listed r (g.F.Field.inv_of f) (g.met.F.Field.laws f) c.args.w m c.requires.images c.args.left.now c.args.columns.now image left columns c.in_ok-from_columns.field-0.items c.settle_all.new.slot
    c.requires.lefts c.requires.columns c.requires.same_len c.requires.unit c.requires.unit_columns done.images done.lefts same same_left done.settled
    (subst (λ n. Turns r c.args.w n m c.args.left.now c.args.columns.now image left columns) c.requires.same_len done.turned)
    back.flat (back.len ∙ many)
    (subst (λ n. (i t : ℕ) → i < n → entry r c.in_ok-from_columns.field-0.items i t ≡ entry r columns (t % n) (t / n * n + i)) many back.rows)
