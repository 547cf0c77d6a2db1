use Rattle.std.proofs.Common.{◌≡◌, ◌+◌, ◌*◌, ◌/◌, ◌%◌, length, ap, ◌∙◌, arith}
use Rattle.std.proofs.Math.Nat.{mod-lt}
use Rattle.std.proofs.lemmas.Nat.{div-add-mod'}
use Rattle.ring_core.specs.Coeffs.{coeff, trim}
use Rattle.ring_core.proofs.Coefficients.{values_more, elems_more, coeff-list_of, coeff_past}
use Rattle.linear_algebra.specs.Linear.{row_at, entry}
use Rattle.flat_modules.proofs.Lists.{flat_in}
use Rattle.flat_reduce.proofs.reduce.row_across.Goals as goal

pub loop-t-preserved : goal.loop-t-preserved
loop-t-preserved g c =
    let r = g.F.Field.ops c.args.f.now in
    let n = length c.args.columns.now in
    record {
      is =
          values_more r c.loop-t.t (λ t. entry r c.args.columns.now (t % n) (t / n * n + c.args.i)) _ _ _ c.in_ok-push.ensures.items c.loop-t.invariant.is
          c.across_at.ensures.value;
      elems = elems_more r _ _ _ c.in_ok-push.ensures.items c.loop-t.invariant.elems c.across_at.ensures.elem;
    }

pub returns-clause-row : goal.returns-clause-row
returns-clause-row g c =
    let r = g.F.Field.ops c.args.f.now in
    let ring = (g.met.F.Field.laws c.args.f.now).ring in
    let columns = c.args.columns.now in
    let n = length columns in
    let inside = flat_in r ring columns c.requires.columns in
    let end : c.in-Some.places ≡ c.longest-len.result + n = omega arith in
    let all : c.loop-t.t ≡ c.in-Some.places = omega arith in
    λ t.
    ap (λ u. coeff r u t) (c.trimmed.ensures.value ∙ ap (trim r) c.loop-t.invariant.is)
    ∙ coeff-list_of r ring.closed.zero_in ring.equal c.loop-t.t (λ t. entry r columns (t % n) (t / n * n + c.args.i)) (λ k. inside (k % n) (k / n * n + c.args.i))
    (λ k far.
    let short = c.longest-len.ensures (k % n) in
    let whole = div-add-mod' k n in
    let low = mod-lt k {m = n} (omega (arith, c.requires.row)) in
    coeff_past r (row_at columns (k % n)) (k / n * n + c.args.i) (omega (arith, short, whole, low, far, end, all))) t
