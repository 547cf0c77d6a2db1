use Rattle.std.proofs.Common.{◌≡◌, ◌+◌, ◌*◌, ◌<◌, length, ap, ◌∙◌, arith}
use Rattle.std.proofs.lemmas.List.{get_or_default}
use Rattle.ring_core.specs.Coeffs.{coeff, trim}
use Rattle.ring_core.proofs.Coefficients.{values_more, elems_more, coeff-list_of, coeff_past, elem_read}
use Rattle.poly_reduce.proofs.convert.entry_of.Goals as goal

pub loop-e-preserved : goal.loop-e-preserved
loop-e-preserved g c =
    let r = g.F.Field.ops c.args.f.now in
    let ring = (g.met.F.Field.laws c.args.f.now).ring in
    let flat = c.args.flat.now in
    let at = c.loop-e.e * c.args.w + c.args.j in
    let low : at < length flat = omega arith in
    let read = c.index-flat-e.is ∙ get_or_default flat at c.index-flat-e.result r.zero low in
    record {
      is = values_more r c.loop-e.e (λ e. coeff r flat (e * c.args.w + c.args.j)) _ _ _ c.in_ok-push.ensures.items c.loop-e.invariant.is read;
      elems = elems_more r _ _ _ c.in_ok-push.ensures.items c.loop-e.invariant.elems (ap r.is_elem read ∙ elem_read r flat ring.closed.zero_in c.requires.flat at);
    }

pub returns-clause-is : goal.returns-clause-is
returns-clause-is g c =
    let r = g.F.Field.ops c.args.f.now in
    let ring = (g.met.F.Field.laws c.args.f.now).ring in
    let flat = c.args.flat.now in
    let all : c.loop-e.e ≡ c.entry_places-e-end.result = omega arith in
    λ e.
    ap (λ u. coeff r u e) (c.from_vec.ensures ∙ c.trimmed.ensures.value ∙ ap (trim r) c.loop-e.invariant.is)
    ∙ coeff-list_of r ring.closed.zero_in ring.equal c.loop-e.e (λ e. coeff r flat (e * c.args.w + c.args.j)) (λ k. elem_read r flat ring.closed.zero_in c.requires.flat (k * c.args.w + c.args.j))
    (λ k far. coeff_past r flat (k * c.args.w + c.args.j) (let past = c.entry_places-e-end.ensures.past k (omega (arith, far, all)) in omega (arith, past))) e
