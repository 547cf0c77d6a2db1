use Rattle.std.proofs.Common.{◌≡◌, ℕ, suc, ◌<◌, ◌≤◌, ◌+◌, ◌-◌, ◌*◌, slice_index_or, ap, arith}
use Rattle.field_tower.specs.steps.Lanes.{plain_sum, place_of}
use Rattle.field_tower.proofs.PlainSums.{product-le, sixteen-le, square-le}
use Rattle.field_tower.proofs.lanes.slid.Goals as goal

pub added-sum-requires-clause-fits : goal.added-sum-requires-clause-fits
added-sum-requires-clause-fits c = λ j l.
    let p = c.args.p in
    let t = c.loop-i.i in
    let n : ℕ = c.args.n in
    let here : t < n = c.loop-i-test.true in
    let room : n ≤ 16 = c.requires.room in
    let term : ℕ → ℕ = λ u. slice_index_or c.args.list.now (c.args.from - u + j) 0 * place_of c.args.a u in
    let read : slice_index_or c.window.result j 0 ≡ slice_index_or c.args.list.now (c.args.from - t + j) 0 = c.window.ensures.lanes j l in
    let product : slice_index_or c.window.result j 0 * place_of c.args.a t ≡ term t = ap (λ r. r * place_of c.args.a t) read in
    let before : slice_index_or c.loop-i.sum j 0 ≡ plain_sum t term = c.loop-i.invariant.lanes j l in
    let low : plain_sum t term + term t ≤ 16 * ((p - 1) * (p - 1)) = sixteen-le p (suc t) term (omega arith) (λ i m. product-le p _ _ (c.requires.members _) (c.requires.coeffs i)) in
    omega (arith, before, product, low, square-le p c.requires.small)

pub reduced-requires-clause-lanes : goal.reduced-requires-clause-lanes
reduced-requires-clause-lanes c = λ j l.
    let p = c.args.p in
    let t = c.loop-i.i in
    let n : ℕ = c.args.n in
    let here : t ≤ n = omega arith in
    let room : n ≤ 16 = c.requires.room in
    let term : ℕ → ℕ = λ u. slice_index_or c.args.list.now (c.args.from - u + j) 0 * place_of c.args.a u in
    let low = sixteen-le p t term (omega arith) (λ i m. product-le p _ _ (c.requires.members _) (c.requires.coeffs i)) in
    omega (arith, c.loop-i.invariant.lanes j l, low)
