use Rattle.std.proofs.Common.{◌≤◌, ◌⊎◌, inl, inr, length, [], refl, sym, ◌∙◌, ap, arith}
use Rattle.std.proofs.lemmas.List.{get_or_read_under}
use Rattle.ring_core.specs.Coeffs.{is_canonical}
use Rattle.fq_poly.specs.Poly.{poly_ops}
use Rattle.ring_core.proofs.Coefficients.{elem_read}
use Rattle.frobenius_rel.proofs.Products.{term_zero}
use Rattle.frobenius_rel.proofs.power.term.Goals as goal
use Rattle.frobenius_rel.proofs.power.term.Goals.{else-i-a-via-then-i-a+else-j-b, else-i-a-via-else-i-a}

pub mul-requires-clause-left : goal.mul-requires-clause-left
mul-requires-clause-left g c =
    let r = g.F.Field.ops c.args.base.now in
    let a = c.args.a.now in
    let read = get_or_read_under a c.args.i (length a) c.index-a-i.result [] c.index-a-i.is c.if-i-a.true refl in
    rw c.new-ring.ensures (ap (is_canonical r) read ∙ elem_read (poly_ops r) a refl c.requires.left c.args.i)

pub mul-requires-clause-right : goal.mul-requires-clause-right
mul-requires-clause-right g c =
    let r = g.F.Field.ops c.args.base.now in
    let b = c.args.b.now in
    let read = get_or_read_under b c.args.j (length b) c.index-b-j.result [] c.index-b-j.is c.if-j-b.true refl in
    rw c.new-ring.ensures (ap (is_canonical r) read ∙ elem_read (poly_ops r) b refl c.requires.right c.args.j)

pub returns-in_ok-zero-clause-value : goal.returns-in_ok-zero-clause-value
returns-in_ok-zero-clause-value g c =
    let base = c.args.base.now in
    let past : (length c.args.a.now ≤ c.args.i) ⊎ (length c.args.b.now ≤ c.args.j) = elim c.else-i-a.branch [
      | else-i-a-via-then-i-a+else-j-b w ↦ let l = w.if-j-b.false in inr (omega (arith, l))
      | else-i-a-via-else-i-a w ↦ let l = w.if-i-a.false in inl (omega (arith, l))
    ] in
    c.in_ok-zero.ensures.value ∙ sym (term_zero (g.F.Field.ops base) (g.F.Field.inv_of base) (g.met.F.Field.laws base) c.args.a.now c.args.b.now c.requires.left c.requires.right c.args.i c.args.j past)
