use Rattle.std.proofs.Common.{◌<◌, ◌/◌, ◌%◌, length, [], refl, ap, ◌∙◌, subst, arith, div-lt_iff_lt-mul}
use Rattle.std.proofs.lemmas.Bool.{and_parts}
use Rattle.std.proofs.lemmas.List.{get_or_read_under}
use Rattle.ring_core.specs.Coeffs.{coeff, are_elems, is_trimmed, list_of}
use Rattle.ring_core.specs.Twisted.{twisted_ops}
use Rattle.ring_core.proofs.Coefficients.{values_more, elem_read}
use Rattle.motive_coords.proofs.over_base.all_parts.Goals as goal

pub base_part-requires-clause-elems : goal.base_part-requires-clause-elems
base_part-requires-clause-elems g c =
    let field = c.args.field.now in
    let r = g.K.Field.ops field in
    let p = twisted_ops r (λ c i. c) in
    let list = c.args.list.now in
    let q = c.loop-q.q in
    let n = c.args.n in
    let pos : 0 < n = let z = (g.met.K.FrobField.frob_laws field).degree_pos in let e = c.requires.degree in omega (arith, z, e) in
    let within : q / n < length list = (div-lt_iff_lt-mul pos).1 (subst (λ m. q < m) c.requires.count c.loop-q-test.true) in
    let read = c.as_slice.ensures ∙ get_or_read_under list (q / n) (length list) c.index-list-q.result [] c.index-list-q.is within refl in
    ap (are_elems r) read ∙ (and_parts (are_elems r (coeff p list (q / n))) (is_trimmed r (coeff p list (q / n))) (elem_read p list refl c.requires.elems (q / n))).0

pub loop-q-preserved : goal.loop-q-preserved
loop-q-preserved g c =
    let field = c.args.field.now in
    let r = g.K.Field.ops field in
    let base = g.K.Base.Field.ops (g.K.FrobField.base_of field) in
    let f = g.K.FrobField.frob_ops field in
    let p = twisted_ops r (λ c i. c) in
    let list = c.args.list.now in
    let q = c.loop-q.q in
    let n = c.args.n in
    let pos : 0 < n = let z = (g.met.K.FrobField.frob_laws field).degree_pos in let e = c.requires.degree in omega (arith, z, e) in
    let within : q / n < length list = (div-lt_iff_lt-mul pos).1 (subst (λ m. q < m) c.requires.count c.loop-q-test.true) in
    let read = c.as_slice.ensures ∙ get_or_read_under list (q / n) (length list) c.index-list-q.result [] c.index-list-q.is within refl in
    values_more (twisted_ops base (λ c i. c)) q (λ q. list_of base (length (coeff p list (q / f.degree))) (λ e. f.coord (coeff r (coeff p list (q / f.degree)) e) (q % f.degree))) _ _ _ c.in_ok-push.ensures.items c.loop-q.invariant
    (c.in_ok-part.ensures ∙ ap (λ t. list_of base (length t) (λ e. f.coord (coeff r t e) (q % n))) read
    ∙ ap (λ m. list_of base (length (coeff p list (q / m))) (λ e. f.coord (coeff r (coeff p list (q / m)) e) (q % m))) c.requires.degree)
