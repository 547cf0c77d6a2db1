use Rattle.std.proofs.Common.{◌≡◌, ◌*◌, ◌/◌, ◌%◌, ◌<◌, ap, ◌∙◌, arith}
use Rattle.std.proofs.Math.Nat.{mod-lt}
use Rattle.std.proofs.lemmas.Bool.{and_parts}
use Rattle.std.proofs.lemmas.Nat.{le-div}
use Rattle.ring_core.specs.Coeffs.{coeff, are_elems, is_trimmed, trim}
use Rattle.ring_core.proofs.Coefficients.{values_more, elems_more, coeff-list_of, coeff_past, elem_read}
use Rattle.linear_algebra.specs.Linear.{row_at}
use Rattle.linear_algebra.proofs.RowLists.{row_len, row_elems}
use Rattle.fq_poly.specs.Poly.{poly_ops}
use Rattle.flat_reduce.proofs.Reading.{read_elems, read_coeff}
use Rattle.poly_reduce.specs.Matrices.{member}
use Rattle.poly_reduce.proofs.Views.{polys_flat, row_canonical}
use Rattle.poly_reduce.proofs.convert.flatten_row.Goals as goal

pub coeff_at-requires : goal.coeff_at-requires
coeff_at-requires g c =
    let r = g.F.Field.ops c.args.f.now in
    let p = poly_ops r in
    let row = c.args.row.now in
    let w = c.args.w in
    let len = row_len p w row c.requires.row in
    let low = mod-lt c.loop-t.t {m = w} (omega (arith, c.requires.width)) in
    read_elems r row (polys_flat r row (row_elems p w row c.requires.row)) (c.loop-t.t % w) _ c.index-row-t.result (omega (arith, low, len)) (c.as_slice.ensures ∙ c.index-row-t.is)

pub loop-t-preserved : goal.loop-t-preserved
loop-t-preserved g c =
    let r = g.F.Field.ops c.args.f.now in
    let p = poly_ops r in
    let row = c.args.row.now in
    let w = c.args.w in
    let t = c.loop-t.t in
    let len = row_len p w row c.requires.row in
    let low = mod-lt t {m = w} (omega (arith, c.requires.width)) in
    record {
      is =
          values_more r t (member r w row) _ _ _ c.in_ok-push.ensures.items c.loop-t.invariant.is
          (c.coeff_at.ensures.value ∙ read_coeff r row (t % w) (t / w) _ c.index-row-t.result (omega (arith, low, len)) (c.as_slice.ensures ∙ c.index-row-t.is));
      elems = elems_more r _ _ _ c.in_ok-push.ensures.items c.loop-t.invariant.elems c.coeff_at.ensures.elem;
    }

pub returns-clause-is : goal.returns-clause-is
returns-clause-is g c =
    let r = g.F.Field.ops c.args.f.now in
    let ring = (g.met.F.Field.laws c.args.f.now).ring in
    let p = poly_ops r in
    let row = c.args.row.now in
    let w = c.args.w in
    let polys = row_elems p w row c.requires.row in
    let pos : 0 < w = omega (arith, c.requires.width) in
    let end : c.in-Some.places ≡ c.longest.result * w = omega (arith, c.in-Some.ensures) in
    let all : c.loop-t.t ≡ c.in-Some.places = omega arith in
    λ t.
    ap (λ u. coeff r u t) (c.trimmed.ensures.value ∙ ap (trim r) c.loop-t.invariant.is)
    ∙ coeff-list_of r ring.closed.zero_in ring.equal c.loop-t.t (member r w row)
    (λ k. elem_read r (row_at row (k % w)) ring.closed.zero_in (and_parts (are_elems r (row_at row (k % w))) (is_trimmed r (row_at row (k % w))) (row_canonical r row polys (k % w))).0 (k / w))
    (λ k far.
    let short = c.longest.ensures (k % w) in
    let high = le-div c.longest.result k w pos (omega (arith, far, all, end)) in
    coeff_past r (row_at row (k % w)) (k / w) (omega (arith, short, high))) t
