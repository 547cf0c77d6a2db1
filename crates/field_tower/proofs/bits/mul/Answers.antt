use Rattle.std.proofs.Common.{◌≡◌, ◌+◌, ◌-◌, ◌<◌, ◌≤◌, ℕ, suc, length, sym, ap, ◌∙◌, arith}
use Rattle.std.proofs.lemmas.Nat.Bits.{bit_at-zero}
use Rattle.ring_core.specs.Ring.{IsElem}
use Rattle.ring_core.specs.Coeffs.{coeff}
use Rattle.residue_field.specs.declared.TopElem.{TopElem}
use Rattle.residue_field.specs.declared.TheConstants.{WIDTH}
use Rattle.residue_field.specs.Residue.{residue, product}
use Rattle.residue_field.specs.Base.{ops_of}
use Rattle.residue_field.proofs.BaseLaws.{base_ring, base_field}
use Rattle.residue_field.proofs.Rows.{rows}
use Rattle.field_tower.specs.steps.Places.{stored, stored_ops}
use Rattle.field_tower.proofs.Stored.{stores_of, stored_of, stored_from}
use Rattle.field_tower.proofs.StoredValues.{residue_elems}
use Rattle.field_tower.proofs.Rows.{all_rows}
use Rattle.field_tower.proofs.PackedBits.{zero_is, read, member_bit, next_bits}
use Rattle.field_tower.proofs.bits.mul.Goals as goal

pub packed-low-requires-clause-bits : goal.packed-low-requires-clause-bits
packed-low-requires-clause-bits c = member_bit c.args.base.now c.requires.binary c.args.modulus.now c.requires.monic.elems

pub packed-right-requires-clause-bits : goal.packed-right-requires-clause-bits
packed-right-requires-clause-bits c =
    let k = c.args.base.now in
    member_bit k c.requires.binary c.args.b.0
    (residue_elems (ops_of k) (base_ring k) (base_field k).mul_comm c.args.modulus.now c.requires.monic c.args.b c.requires.right)

pub loop-i-init : goal.loop-i-init
loop-i-init c =
    let k = c.args.base.now in
    let r = ops_of k in
    let n = length c.args.modulus.now - 1 in
    let none : 0 ≡ n - n = omega arith in
    λ j (l : j < n).
    bit_at-zero j ∙ sym (zero_is k c.requires.binary)
    ∙ ap (λ m. rows r (length c.args.modulus.now - 2) (coeff r c.args.modulus.now) m (λ m. coeff r c.args.a.0 (n + m)) (coeff r c.args.b.0) j) none

pub step-out-requires-clause-factor : goal.step-out-requires-clause-factor
step-out-requires-clause-factor c =
    let k = c.args.base.now in
    member_bit k c.requires.binary c.args.a.0
    (residue_elems (ops_of k) (base_ring k) (base_field k).mul_comm c.args.modulus.now c.requires.monic c.args.a c.requires.left) (c.loop-i.i - 1)

pub loop-i-preserved : goal.loop-i-preserved
loop-i-preserved c =
    let k = c.args.base.now in
    let r = ops_of k in
    let binary = c.requires.binary in
    let modulus = c.args.modulus.now in
    let degree : 2 ≤ length modulus = c.requires.monic.degree in
    let i = c.loop-i.i in
    let bit = member_bit k binary c.args.a.0 (residue_elems r (base_ring k) (base_field k).mul_comm modulus c.requires.monic c.args.a c.requires.left) (i - 1) in
    λ j (l : j < length modulus - 1).
    c.step-out.ensures j l
    ∙ next_bits k binary (length modulus - 2) (coeff r modulus) (coeff r c.args.a.0) (coeff r c.args.b.0) c.packed-low.result c.packed-right.result c.loop-i.out
    (length modulus - 1) i j _ (omega arith) (omega arith) (omega arith) l (read k binary c.args.a.0 (i - 1)) bit
    (c.packed-low.ensures j l ∙ read k binary modulus j) (c.packed-right.ensures j l ∙ read k binary c.args.b.0 j) c.loop-i.invariant

pub returns : goal.returns
unfolding stored_ops stored
returns c =
    let k = c.args.base.now in
    let r = ops_of k in
    let ring = base_ring k in
    let commutes = (base_field k).mul_comm in
    let binary = c.requires.binary in
    let modulus = c.args.modulus.now in
    let d = length modulus - 2 in
    let degree : 2 ≤ length modulus = c.requires.monic.degree in
    let elems = residue_elems r ring commutes modulus c.requires.monic in
    let past = λ (x : TopElem) (e : IsElem (stored_ops r modulus) x) (i : ℕ) (l : length modulus - 1 ≤ i).
    (stores_of r ring modulus c.requires.monic).place_past x i (stored_of r modulus x e) (omega arith) in
    let width : length c.unpacked.result.0 ≡ WIDTH = omega arith in
    stored_from r d c.unpacked.result.0 (residue r d (coeff r modulus) (d + 1 + (d + 1)) (product r (coeff r c.args.a.0) (coeff r c.args.b.0))) width
    (λ j (l : j < suc d).
    sym (read k binary c.unpacked.result.0 j) ∙ c.unpacked.ensures.values j (omega arith) ∙ c.loop-i.invariant j (omega arith)
    ∙ all_rows r ring commutes modulus c.args.a.0 c.args.b.0 degree c.requires.monic.elems (elems c.args.a c.requires.left) (elems c.args.b c.requires.right)
    (past c.args.a c.requires.left) (past c.args.b c.requires.right) (length modulus - 1) c.loop-i.i j (omega arith) (omega arith))
    (λ j (l : suc d ≤ j). sym (read k binary c.unpacked.result.0 j) ∙ c.unpacked.ensures.past j (omega arith) ∙ sym (zero_is k binary))
