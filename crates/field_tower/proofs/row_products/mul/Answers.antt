use Rattle.std.proofs.Common.{◌≡◌, ◌+◌, ◌-◌, ◌*◌, ◌≤◌, length, take, drop, get_or-take, sym, ap, subst, ◌∙◌, arith}
use Rattle.std.proofs.lemmas.List.{get_or-drop, length-take}
use Rattle.ring_core.specs.Coeffs.{coeff}
use Rattle.ring_core.proofs.Coefficients.{elems_take, elem_read}
use Rattle.ring_core.proofs.PowerLaws.{elems_drop}
use Rattle.residue_field.specs.declared.TheConstants.{WIDTH}
use Rattle.residue_field.proofs.TopPlaces.{elems_of}
use Rattle.field_tower.specs.steps.Places.{IsStored, stored, stored_ops}
use Rattle.field_tower.proofs.Stored.{fits_of, stored_of, stored_in}
use Rattle.field_tower.proofs.StoredValues.{residue_elems}
use Rattle.field_tower.proofs.ProductParts.{over-count, row_elems, parts_stored}
use Rattle.field_tower.proofs.row_products.mul.Goals as goal

pub plain_product-product-requires-clause-left : goal.plain_product-product-requires-clause-left
plain_product-product-requires-clause-left g c =
    let r = g.F.Field.ops c.args.field.now in
    let field = g.met.F.Field.laws c.args.field.now in
    let modulus = c.args.modulus.now in
    elems_take r (length modulus - 1) c.args.a.0 (residue_elems r field.ring field.mul_comm modulus c.requires.monic c.args.a c.requires.left)

pub plain_product-product-requires-clause-right : goal.plain_product-product-requires-clause-right
plain_product-product-requires-clause-right g c =
    let r = g.F.Field.ops c.args.field.now in
    let field = g.met.F.Field.laws c.args.field.now in
    let modulus = c.args.modulus.now in
    elems_take r (length modulus - 1) c.args.b.0 (residue_elems r field.ring field.mul_comm modulus c.requires.monic c.args.b c.requires.right)

pub residue_of-requires-clause-elems : goal.residue_of-requires-clause-elems
residue_of-requires-clause-elems g c =
    elems_take (g.F.Field.ops c.args.field.now) (length c.args.modulus.now - 1) c.plain_product-product.result c.plain_product-product.ensures.elems

pub add_rows-requires-clause-out : goal.add_rows-requires-clause-out
add_rows-requires-clause-out g c =
    let r = g.F.Field.ops c.args.field.now in
    let ring = (g.met.F.Field.laws c.args.field.now).ring in
    let modulus = c.args.modulus.now in
    let n = length modulus - 1 in
    let first = take n c.plain_product-product.result in
    let degree = c.requires.monic.degree in
    let room : length modulus ≤ WIDTH + 1 = c.requires.monic.room in
    let wide : length c.plain_product-product.result ≡ 2 * WIDTH = omega arith in
    let taken = length-take n c.plain_product-product.result in
    let len : length first - 1 ≡ length modulus - 2 = omega arith in
    let fits = fits_of r ring modulus c.requires.monic in
    elems_of r ring (length modulus - 2) fits c.residue_of.result
    (subst (IsStored r (length modulus - 2)) (sym (c.residue_of.ensures ∙ ap (λ d. stored r d (coeff r first)) len))
    (stored_in r (length modulus - 2) ring fits (coeff r first)
    (elem_read r first ring.closed.zero_in (elems_take r n c.plain_product-product.result c.plain_product-product.ensures.elems))))

pub add_rows-requires-clause-factors : goal.add_rows-requires-clause-factors
add_rows-requires-clause-factors g c =
    let r = g.F.Field.ops c.args.field.now in
    elems_take r (2 * (length c.args.modulus.now - 1) - 1 - (length c.args.modulus.now - 1)) _
    (elems_drop r (g.met.F.Field.laws c.args.field.now).ring (length c.args.modulus.now - 1) c.plain_product-product.result c.plain_product-product.ensures.elems)

pub add_rows-requires-clause-rows : goal.add_rows-requires-clause-rows
add_rows-requires-clause-rows g c =
    let field = g.met.F.Field.laws c.args.field.now in
    row_elems (g.F.Field.ops c.args.field.now) field.ring field.mul_comm c.args.modulus.now c.requires.monic c.args.letters.now c.requires.letters

pub add_rows-requires-clause-count : goal.add_rows-requires-clause-count
add_rows-requires-clause-count g c =
    let field = g.met.F.Field.laws c.args.field.now in
    let count =
    over-count (g.F.Field.ops c.args.field.now) field.ring field.mul_comm c.args.modulus.now c.requires.monic c.args.letters.now c.requires.letters in
    omega arith

pub returns : goal.returns
unfolding stored_ops stored
returns g c =
    let r = g.F.Field.ops c.args.field.now in
    let field = g.met.F.Field.laws c.args.field.now in
    let modulus = c.args.modulus.now in
    let n = length modulus - 1 in
    let plain = c.plain_product-product.result in
    let others = take (2 * n - 1 - n) (drop n plain) in
    let out = c.add_rows.new.out in
    let degree = c.requires.monic.degree in
    let room : length modulus ≤ WIDTH + 1 = c.requires.monic.room in
    let width : length out ≡ WIDTH = omega arith in
    let wide : length plain ≡ 2 * WIDTH = omega arith in
    let taken = length-take n plain in
    let len : length (take n plain) - 1 ≡ length modulus - 2 = omega arith in
    let count : length others ≡ n - 1 = omega arith in
    parts_stored r field.ring field.mul_comm modulus c.requires.monic c.args.letters.now c.requires.letters
    c.args.a c.args.b (stored_of r modulus c.args.a c.requires.left) (stored_of r modulus c.args.b c.requires.right)
    plain others out c.residue_of.result width c.plain_product-product.ensures.elems count
    (λ k l. c.plain_product-product.ensures.values k (omega arith))
    (λ t l. get_or-take (2 * n - 1 - n) (drop n plain) t r.zero (omega arith) ∙ get_or-drop n plain t r.zero)
    (c.residue_of.ensures ∙ ap (λ d. stored r d (coeff r (take n plain))) len)
    c.add_rows.ensures.added c.add_rows.ensures.past
