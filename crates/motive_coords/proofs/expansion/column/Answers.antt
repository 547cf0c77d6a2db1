use Rattle.std.proofs.Common.{refl, ◌∙◌, ap, length, []}
use Rattle.std.proofs.lemmas.List.{get_or_read_under}
use Rattle.std.proofs.lemmas.Bool.{and_parts}
use Rattle.ring_core.specs.Coeffs.{coeff, are_elems, is_trimmed}
use Rattle.ring_core.specs.Twisted.{twisted_ops}
use Rattle.ring_core.proofs.Coefficients.{values_more, elems_more, elem_read}
use Rattle.motive_coords.proofs.expansion.column.Goals as goal

pub coeff_at-member-requires : goal.coeff_at-member-requires
coeff_at-member-requires g c =
    let r = g.K.Field.ops c.args.field.now in
    let s = twisted_ops r (g.K.FrobField.frob_ops c.args.field.now).frob in
    let read = c.as_slice.ensures ∙ get_or_read_under c.args.digits.now c.loop-j.j (length c.args.digits.now) c.index-digits-j.result [] c.index-digits-j.is c.loop-j-test.true refl in
    ap (are_elems r) read ∙ (and_parts (are_elems r (coeff s c.args.digits.now c.loop-j.j)) (is_trimmed r (coeff s c.args.digits.now c.loop-j.j)) (elem_read s c.args.digits.now refl c.requires c.loop-j.j)).0

pub loop-j-preserved : goal.loop-j-preserved
loop-j-preserved g c =
    let r = g.K.Field.ops c.args.field.now in
    let s = twisted_ops r (g.K.FrobField.frob_ops c.args.field.now).frob in
    let found = c.coeff_at-member.ensures in
    let read = c.as_slice.ensures ∙ get_or_read_under c.args.digits.now c.loop-j.j (length c.args.digits.now) c.index-digits-j.result [] c.index-digits-j.is c.loop-j-test.true refl in
    record {
      elems = elems_more r _ _ _ c.in_ok-push.ensures.items c.loop-j.invariant.elems found.elem;
      value = values_more r c.loop-j.j (λ j. coeff r (coeff s c.args.digits.now j) c.args.i) _ _ _ c.in_ok-push.ensures.items c.loop-j.invariant.value (found.value ∙ ap (λ t. coeff r t c.args.i) read);
    }
