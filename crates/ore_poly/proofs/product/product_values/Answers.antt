use Rattle.std.proofs.Common.{◌≡◌, ◌+◌, ◌<◌, length, refl, sym, ap, ◌∙◌, arith}
use Rattle.ring_core.specs.Coeffs.{coeff}
use Rattle.ring_core.specs.Twisted.{product_at}
use Rattle.ring_core.proofs.Coefficients.{coeff-first_values, values_by_coeffs}
use Rattle.ring_core.proofs.RowSteps.{whole_written}
use Rattle.ring_core.proofs.FirstValues.{length-first_values}
use Rattle.ore_poly.proofs.product.product_values.Goals as goal

pub add_raised-requires-clause-room : goal.add_raised-requires-clause-room
add_raised-requires-clause-room g c =
    let r = g.K.Field.ops c.args.field.now in
    let len = c.in-Some.len in
    let zeros : length c.deref_mut.result.now ≡ len = ap length (c.deref_mut.ensures.value ∙ c.in_ok-out.ensures.value) ∙ length-first_values len (λ i. r.zero) in
    omega (arith, c.in-Some.ensures)

pub add_raised-requires-clause-zeros : goal.add_raised-requires-clause-zeros
add_raised-requires-clause-zeros g c =
    let r = g.K.Field.ops c.args.field.now in
    λ k.
    ap (λ u. coeff r u k) (c.deref_mut.ensures.value ∙ c.in_ok-out.ensures.value)
    ∙ coeff-first_values r c.in-Some.len (λ i. r.zero) (λ i l. refl) k

pub returns-clause-value : goal.returns-clause-value
returns-clause-value g c =
    let k = c.args.field.now in
    let r = g.K.Field.ops k in
    let frob = (g.K.FrobField.frob_ops k).frob in
    let a = c.args.a.now in
    let b = c.args.b.now in
    let out = c.in_ok-out.out in
    let len = c.in-Some.len in
    let value = c.in_ok-out.ensures.value in
    let written = c.add_raised.new.out in
    let made : length out.items ≡ len = ap length value ∙ length-first_values len (λ i. r.zero) in
    let lent : length c.deref_mut.result.now ≡ length out.items = ap length c.deref_mut.ensures.value in
    let kept : length written ≡ len = omega arith in
    let total : len ≡ length a + length b = omega (arith, c.in-Some.ensures) in
    let count : out.len ≡ len = omega (arith, out.ok.0) in
    whole_written out.len written out.items (kept ∙ sym count) (made ∙ sym count)
    ∙ values_by_coeffs r written (length a + length b) (product_at r frob a b) (kept ∙ total)
    (λ n (l : n < length a + length b).
    let within : n < length c.deref_mut.result.now = omega arith in
    c.add_raised.ensures.product n within)
