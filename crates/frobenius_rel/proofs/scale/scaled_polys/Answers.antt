use Rattle.std.proofs.Common.{refl, ◌∙◌, ap, length, []}
use Rattle.std.proofs.lemmas.List.{get_or_read_under}
use Rattle.ring_core.specs.Coeffs.{coeff, is_canonical}
use Rattle.ring_core.specs.Twisted.{twisted_ops, list_mul}
use Rattle.ring_core.specs.Monomial.{constant}
use Rattle.ring_core.proofs.Coefficients.{values_more, elem_read}
use Rattle.frobenius_rel.proofs.scale.scaled_polys.Goals as goal

pub scaled_poly-requires-clause-elem : goal.scaled_poly-requires-clause-elem
scaled_poly-requires-clause-elem g c =
    let r = g.F.Field.ops c.args.field.now in
    let read = get_or_read_under c.args.polys.now c.loop-i.i (length c.args.polys.now) c.index-polys-i.result [] c.index-polys-i.is c.loop-i-test.true refl in
    ap (is_canonical r) read ∙ elem_read (twisted_ops r (λ c i. c)) c.args.polys.now refl c.requires.elems c.loop-i.i

pub loop-i-preserved : goal.loop-i-preserved
loop-i-preserved g c =
    let r = g.F.Field.ops c.args.field.now in
    let read = get_or_read_under c.args.polys.now c.loop-i.i (length c.args.polys.now) c.index-polys-i.result [] c.index-polys-i.is c.loop-i-test.true refl in
    values_more (twisted_ops r (λ c i. c)) c.loop-i.i (λ i. list_mul r (λ c i. c) (constant r c.args.factor) (coeff (twisted_ops r (λ c i. c)) c.args.polys.now i)) _ _ _ c.in_ok-push.ensures.items c.loop-i.invariant
    (c.in_ok-one.ensures ∙ ap (list_mul r (λ c i. c) (constant r c.args.factor)) read)
