use Rattle.std.proofs.Common.{refl, ◌∙◌, ap, length, [], ◌-◌, ◌<◌, arith}
use Rattle.std.proofs.lemmas.Bool.{and_parts}
use Rattle.std.proofs.lemmas.List.{get_or_read_under}
use Rattle.ring_core.specs.Coeffs.{coeff, are_elems, is_trimmed}
use Rattle.ring_core.specs.Twisted.{twisted_ops}
use Rattle.ring_core.proofs.Coefficients.{elem_read}
use Rattle.frobenius_rel.proofs.scale.top_constant.Goals as goal

pub coeff_at-requires : goal.coeff_at-requires
coeff_at-requires g c =
    let r = g.F.Field.ops c.args.field.now in
    let s = twisted_ops r (λ c i. c) in
    let n = length c.args.polys.now in
    let within : n - 1 < n = let m = c.requires.some in omega (arith, m) in
    let read = c.as_slice.ensures ∙ get_or_read_under c.args.polys.now (n - 1) n c.index-polys-polys.result [] c.index-polys-polys.is within refl in
    ap (are_elems r) read ∙ (and_parts (are_elems r (coeff s c.args.polys.now (n - 1))) (is_trimmed r (coeff s c.args.polys.now (n - 1))) (elem_read s c.args.polys.now refl c.requires.elems (n - 1))).0

pub returns-clause-value : goal.returns-clause-value
returns-clause-value g c =
    let r = g.F.Field.ops c.args.field.now in
    let n = length c.args.polys.now in
    let within : n - 1 < n = let m = c.requires.some in omega (arith, m) in
    let read = c.as_slice.ensures ∙ get_or_read_under c.args.polys.now (n - 1) n c.index-polys-polys.result [] c.index-polys-polys.is within refl in
    c.coeff_at.ensures.value ∙ ap (λ t. coeff r t 0) read
