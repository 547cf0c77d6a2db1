use Rattle.std.proofs.Common.{◌≡◌, ℕ, suc, ◌<◌, ◌≤◌, ◌+◌, ◌-◌, ◌*◌, length, slice_index_or, ap, arith}
use Rattle.field_tower.specs.steps.Lanes.{plain_sum, place_of}
use Rattle.field_tower.specs.steps.Images.{image_at}
use Rattle.field_tower.proofs.PlainSums.{product-le, before-le, square-le}
use Rattle.field_tower.proofs.lanes.combined.Goals as goal

pub added-out-requires-clause-fits : goal.added-out-requires-clause-fits
added-out-requires-clause-fits c = λ j l.
    let p = c.args.p in
    let t = c.loop-t.t in
    let n : ℕ = c.args.n in
    let here : t < n = c.loop-t-test.true in
    let inside : c.args.start + n ≤ length c.args.rows.now = c.requires.row in
    let s = slice_index_or c.args.sum j 0 in
    let term : ℕ → ℕ = λ u. place_of (image_at c.args.rows.now (c.args.start + u)) j * place_of c.args.c u in
    let read : slice_index_or c.widened.result j 0 ≡ place_of (image_at c.args.rows.now (c.args.start + t)) j = ap (λ v. slice_index_or v j 0) c.widened.ensures in
    let product : slice_index_or c.widened.result j 0 * place_of c.args.c t ≡ term t = ap (λ r. r * place_of c.args.c t) read in
    let before : slice_index_or c.loop-t.out j 0 ≡ s + plain_sum t term = c.loop-t.invariant.lanes j l in
    let low : s + (plain_sum t term + term t) ≤ 16 * ((p - 1) * (p - 1)) =
    before-le p n s term (suc t) (omega arith) (c.requires.fits j l) (λ i (m : i < suc t). product-le p _ _ (c.requires.rows (c.args.start + i) j (omega arith)) (c.requires.coeffs i)) in
    omega (arith, before, product, low, square-le p c.requires.small)

pub reduced-requires-clause-lanes : goal.reduced-requires-clause-lanes
reduced-requires-clause-lanes c = λ j l.
    let p = c.args.p in
    let n : ℕ = c.args.n in
    let t = c.loop-t.t in
    let here : t ≤ n = omega arith in
    let inside : c.args.start + n ≤ length c.args.rows.now = c.requires.row in
    let s = slice_index_or c.args.sum j 0 in
    let term : ℕ → ℕ = λ u. place_of (image_at c.args.rows.now (c.args.start + u)) j * place_of c.args.c u in
    let low = before-le p n s term t here (c.requires.fits j l) (λ i (m : i < t). product-le p _ _ (c.requires.rows (c.args.start + i) j (omega arith)) (c.requires.coeffs i)) in
    omega (arith, c.loop-t.invariant.lanes j l, low)
