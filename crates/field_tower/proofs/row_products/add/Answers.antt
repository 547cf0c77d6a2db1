use Rattle.std.proofs.Common.{◌≡◌, ℕ, ◌+◌, ◌-◌, ◌≤◌, suc, length, sym, ap, ap₂, ◌∙◌, arith}
use Rattle.ring_core.specs.Coeffs.{coeff}
use Rattle.ring_core.proofs.Coefficients.{elem_read}
use Rattle.residue_field.specs.declared.TheConstants.{WIDTH}
use Rattle.field_tower.specs.steps.Places.{stored, stored_ops}
use Rattle.field_tower.proofs.Stored.{stored_from, stores_of, stored_of}
use Rattle.field_tower.proofs.StoredValues.{residue_elems}
use Rattle.field_tower.proofs.row_products.add.Goals as goal

pub add_row-requires-clause-out : goal.add_row-requires-clause-out
add_row-requires-clause-out g c =
    let field = g.met.F.Field.laws c.args.field.now in
    residue_elems (g.F.Field.ops c.args.field.now) field.ring field.mul_comm c.args.modulus.now c.requires.monic c.args.a c.requires.left

pub add_row-requires-clause-row : goal.add_row-requires-clause-row
add_row-requires-clause-row g c =
    let field = g.met.F.Field.laws c.args.field.now in
    residue_elems (g.F.Field.ops c.args.field.now) field.ring field.mul_comm c.args.modulus.now c.requires.monic c.args.b c.requires.right

pub returns : goal.returns
unfolding stored_ops stored
returns g c =
    let r = g.F.Field.ops c.args.field.now in
    let field = g.met.F.Field.laws c.args.field.now in
    let ring = field.ring in
    let modulus = c.args.modulus.now in
    let a = c.args.a in
    let b = c.args.b in
    let out = c.add_row.new.out in
    let places = stores_of r ring modulus c.requires.monic in
    let width : length out ≡ WIDTH = omega arith in
    let b_in = residue_elems r ring field.mul_comm modulus c.requires.monic b c.requires.right in
    let sum : (i : ℕ) → coeff r out i ≡ r.add (coeff r a.0 i) (coeff r b.0 i) =
    λ i.
    let here : 0 + i ≡ i = omega arith in
    ap (coeff r out) (sym here) ∙ c.add_row.ensures.added i
    ∙ ap₂ r.add (ap (coeff r a.0) here) (ap (λ x. r.mul x (coeff r b.0 i)) c.one.ensures.value ∙ ring.one_mul _ (elem_read r b.0 ring.closed.zero_in b_in i)) in
    stored_from r (length modulus - 2) out (λ i. r.add (coeff r a.0 i) (coeff r b.0 i)) width
    (λ i l. sum i)
    (λ i (l : suc (length modulus - 2) ≤ i).
    sum i
    ∙ ap₂ r.add (places.place_past a i (stored_of r modulus a c.requires.left) l) (places.place_past b i (stored_of r modulus b c.requires.right) l)
    ∙ ring.zero_add r.zero ring.closed.zero_in)
