use Rattle.std.proofs.Common.{◌≡◌, [], ◌++◌, length, ap, sym, ◌∙◌, arith}
use Rattle.std.proofs.lemmas.Bool.{eqb-true, eqb-false}
use Rattle.std.proofs.lemmas.List.{nil_from_length}
use Rattle.ring_core.specs.Coeffs.{is_canonical}
use Rattle.ring_core.specs.Powers.{power_of}
use Rattle.fq_poly.specs.Poly.{poly_mul, poly_ops, letter}
use Rattle.fq_poly.proofs.Shifts.{canonical_behind, shift_is, shift_of_zero}
use Rattle.fq_poly.proofs.shift.shifted_list.Goals as goal

pub returns-then-is_empty-clause-value : goal.returns-then-is_empty-clause-value
returns-then-is_empty-clause-value g c =
    let r = g.F.Field.ops c.args.field.now in
    let field = g.met.F.Field.laws c.args.field.now in
    let list = c.args.list.now in
    let empty : list ≡ [] = nil_from_length list (eqb-true (length list) 0 (sym c.is_empty.ensures ∙ c.if-is_empty.true)) in
    c.new.ensures.items ∙ shift_of_zero r field.ring field.one_ne_zero c.args.k
    ∙ ap (λ u. poly_mul r u (power_of (poly_ops r) (letter r) c.args.k)) (sym empty)

pub returns-clause-value : goal.returns-clause-value
returns-clause-value g c =
    let field = g.met.F.Field.laws c.args.field.now in
    let list = c.args.list.now in
    c.in_ok-extend_from_slice.ensures.items ∙ ap (λ u. u ++ list) c.in_ok-coeffs.ensures.value
    ∙ shift_is _ field.ring field.one_ne_zero list c.args.k c.requires (omega (arith, eqb-false (length list) 0 (sym c.is_empty.ensures ∙ c.if-is_empty.false)))

pub returns-clause-elem : goal.returns-clause-elem
returns-clause-elem g c =
    let r = g.F.Field.ops c.args.field.now in
    let list = c.args.list.now in
    ap (is_canonical r) (c.in_ok-extend_from_slice.ensures.items ∙ ap (λ u. u ++ list) c.in_ok-coeffs.ensures.value)
    ∙ canonical_behind r c.args.k list (g.met.F.Field.laws c.args.field.now).ring.closed.zero_in
    (omega (arith, eqb-false (length list) 0 (sym c.is_empty.ensures ∙ c.if-is_empty.false))) c.requires
