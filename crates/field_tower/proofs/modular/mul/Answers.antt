use Rattle.std.proofs.Common.{inl, inr, ◌≡◌, suc, ◌+◌, ◌-◌, ◌<◌, ◌≤◌, length, sym, subst, ◌∙◌, arith}
use Rattle.std.proofs.lemmas.Bool.{cases_lt}
use Rattle.ring_core.specs.Ring.{IsElem}
use Rattle.ring_core.specs.Coeffs.{coeff}
use Rattle.ring_core.proofs.Coefficients.{coeff_past}
use Rattle.residue_field.specs.declared.TheConstants.{WIDTH}
use Rattle.residue_field.specs.Residue.{residue, product}
use Rattle.residue_field.specs.Base.{ops_of}
use Rattle.residue_field.proofs.BaseLaws.{base_ring, base_commutes}
use Rattle.field_tower.specs.steps.Places.{stored, stored_ops}
use Rattle.field_tower.proofs.Stored.{stored_from, stored_of, stored_ring}
use Rattle.field_tower.proofs.ModularForms.{modular_of, large_of, read_is}
use Rattle.field_tower.proofs.ProductParts.{over-count}
use Rattle.field_tower.proofs.ModularProduct.{row_low, past_none, factor_low, factor_past, product_below}
use Rattle.field_tower.proofs.modular.mul.Goals as goal

pub multiplied-requires-clause-left : goal.multiplied-requires-clause-left
multiplied-requires-clause-left c =
    let base = c.args.base.now in
    let r = ops_of base in
    let p = c.p.result in
    let large = large_of base p c.p.ensures c.requires.prime in
    let modular = modular_of base p c.p.ensures c.requires.prime in
    let modulus = c.args.modulus.now in
    factor_low r p large modular (base_ring base) (base_commutes base) modulus c.requires.monic c.args.over.now c.requires.over
    c.args.a (stored_of r modulus c.args.a c.requires.left)

pub multiplied-requires-clause-right : goal.multiplied-requires-clause-right
multiplied-requires-clause-right c =
    let base = c.args.base.now in
    let r = ops_of base in
    let p = c.p.result in
    let large = large_of base p c.p.ensures c.requires.prime in
    let modular = modular_of base p c.p.ensures c.requires.prime in
    let modulus = c.args.modulus.now in
    factor_low r p large modular (base_ring base) (base_commutes base) modulus c.requires.monic c.args.over.now c.requires.over
    c.args.b (stored_of r modulus c.args.b c.requires.right)

pub multiplied-requires-clause-left_past : goal.multiplied-requires-clause-left_past
multiplied-requires-clause-left_past c =
    let base = c.args.base.now in
    let r = ops_of base in
    let p = c.p.result in
    let large = large_of base p c.p.ensures c.requires.prime in
    let modular = modular_of base p c.p.ensures c.requires.prime in
    let modulus = c.args.modulus.now in
    factor_past r p large modular (base_ring base) (base_commutes base) modulus c.requires.monic c.args.over.now c.requires.over
    c.args.a (stored_of r modulus c.args.a c.requires.left)

pub multiplied-requires-clause-over : goal.multiplied-requires-clause-over
multiplied-requires-clause-over c =
    let base = c.args.base.now in
    let r = ops_of base in
    let p = c.p.result in
    let large = large_of base p c.p.ensures c.requires.prime in
    let modular = modular_of base p c.p.ensures c.requires.prime in
    let modulus = c.args.modulus.now in
    row_low r p large modular (base_ring base) (base_commutes base) modulus c.requires.monic c.args.over.now c.requires.over

pub multiplied-requires-clause-rows : goal.multiplied-requires-clause-rows
multiplied-requires-clause-rows c =
    let base = c.args.base.now in
    let r = ops_of base in
    let p = c.p.result in
    let large = large_of base p c.p.ensures c.requires.prime in
    let modular = modular_of base p c.p.ensures c.requires.prime in
    let modulus = c.args.modulus.now in
    let count = over-count r (base_ring base) (base_commutes base) modulus c.requires.monic c.args.over.now c.requires.over in
    omega arith

pub returns-clause-value : goal.returns-clause-value
unfolding stored_ops stored
returns-clause-value c =
    let base = c.args.base.now in
    let r = ops_of base in
    let p = c.p.result in
    let large = large_of base p c.p.ensures c.requires.prime in
    let modular = modular_of base p c.p.ensures c.requires.prime in
    let modulus = c.args.modulus.now in
    let x = c.multiplied.result in
    let d = length modulus - 2 in
    let degree = c.requires.monic.degree in
    let width : length x.0 ≡ WIDTH = omega arith in
    let read = read_is r p large modular x.0 in
    stored_from r d x.0 (residue r d (coeff r modulus) (d + 1 + (d + 1)) (product r (coeff r c.args.a.0) (coeff r c.args.b.0))) width
    (λ i (l : i < suc d).
    read i ∙ c.multiplied.ensures.below i (omega arith)
    ∙ sym (product_below r p large modular (base_ring base) (base_commutes base) modulus c.requires.monic c.args.over.now c.requires.over
    c.args.a c.args.b (stored_of r modulus c.args.a c.requires.left) (stored_of r modulus c.args.b c.requires.right) i (omega arith)))
    (λ i (l : suc d ≤ i). elim (cases_lt i 16) [
      | inl m ↦
          read i ∙ c.multiplied.ensures.past i (omega arith) m
          ∙ past_none r p large modular (base_ring base) (base_commutes base) modulus c.requires.monic c.args.over.now c.requires.over i _ (omega arith) ∙ sym modular.zero_is
      | inr m ↦ coeff_past r x.0 i (omega arith)
    ])

pub returns-clause-elem : goal.returns-clause-elem
returns-clause-elem c =
    let base = c.args.base.now in
    let modulus = c.args.modulus.now in
    let ring = stored_ring (ops_of base) (base_ring base) modulus c.requires.monic (base_commutes base) in
    subst (IsElem (stored_ops (ops_of base) modulus)) (sym (returns-clause-value c)) (ring.closed.mul_in _ _ c.requires.left c.requires.right)
