use Rattle.std.proofs.Common.{refl, ◌∙◌, ap, length, []}
use Rattle.std.proofs.lemmas.List.{get_or_read_under}
use Rattle.std.proofs.lemmas.Bool.{and_parts}
use Rattle.ring_core.specs.Coeffs.{coeff, are_elems, is_trimmed}
use Rattle.fq_poly.specs.Poly.{poly_ops}
use Rattle.ring_core.proofs.Coefficients.{values_more, elems_more, elem_read}
use Rattle.motive_coords.proofs.coordinates.digit.Goals as goal

pub coeff_at-member-requires : goal.coeff_at-member-requires
coeff_at-member-requires g c =
    let r = g.K.Field.ops c.args.field.now in
    let p = poly_ops r in
    let list = c.args.list.now in
    let i = c.loop-i.i in
    let read = c.as_slice.ensures ∙ get_or_read_under list i (length list) c.index-list-i.result [] c.index-list-i.is c.loop-i-test.true refl in
    ap (are_elems r) read ∙ (and_parts (are_elems r (coeff p list i)) (is_trimmed r (coeff p list i)) (elem_read p list refl c.requires.elems i)).0

pub loop-i-preserved : goal.loop-i-preserved
loop-i-preserved g c =
    let r = g.K.Field.ops c.args.field.now in
    let p = poly_ops r in
    let list = c.args.list.now in
    let i = c.loop-i.i in
    let found = c.coeff_at-member.ensures in
    let read = c.as_slice.ensures ∙ get_or_read_under list i (length list) c.index-list-i.result [] c.index-list-i.is c.loop-i-test.true refl in
    record {
      elems = elems_more r _ _ _ c.in_ok-push.ensures.items c.loop-i.invariant.elems found.elem;
      value = values_more r i (λ i. coeff r (coeff p list i) c.args.j) _ _ _ c.in_ok-push.ensures.items c.loop-i.invariant.value (found.value ∙ ap (λ t. coeff r t c.args.j) read);
    }
