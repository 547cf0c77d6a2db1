use Rattle.std.proofs.Common.{◌<◌, ◌/◌, ◌%◌, [], length, ap, ◌∙◌, arith}
use Rattle.std.proofs.Math.Nat.{mod-lt}
use Rattle.std.proofs.lemmas.Bool.{and_parts}
use Rattle.std.proofs.lemmas.List.{get_or_default}
use Rattle.ring_core.specs.Coeffs.{coeff, are_elems}
use Rattle.linear_algebra.specs.Linear.{row_at}
use Rattle.flat_modules.proofs.Lists.{flat_at}
use Rattle.central_coords.proofs.Rows.{values_after}
use Rattle.central_coords.proofs.polys.interleaved.Goals as goal

pub coeff_at-requires : goal.coeff_at-requires
coeff_at-requires g c =
    let r = g.F.Field.ops c.args.f.now in
    let list = c.args.list.now in
    let p = c.loop-c.c % length list in
    let low : p < length list = mod-lt c.loop-c.c (omega (arith, c.requires.some)) in
    ap (are_elems r) (c.as_slice.ensures ∙ c.index-list-p.is ∙ get_or_default list p c.index-list-p.result [] low) ∙ (and_parts (are_elems r (row_at list p)) _ (flat_at r list c.requires.polys p)).0

pub loop-c-preserved : goal.loop-c-preserved
loop-c-preserved g c =
    let r = g.F.Field.ops c.args.f.now in
    let list = c.args.list.now in
    let at = c.loop-c.c in
    let p = at % length list in
    let low : p < length list = mod-lt at (omega (arith, c.requires.some)) in
    values_after [] at (λ c. coeff r (row_at list (c % length list)) (c / length list)) _ _ _ c.in_ok-push.ensures.items c.loop-c.invariant
    (c.coeff_at.ensures.value ∙ ap (λ v. coeff r v (at / length list)) (c.as_slice.ensures ∙ c.index-list-p.is ∙ get_or_default list p c.index-list-p.result [] low))
