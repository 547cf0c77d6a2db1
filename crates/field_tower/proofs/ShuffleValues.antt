-- Products looked up among sixteen, and what is written block by block.
use Rattle.std.proofs.Common.{◌≡◌, ℕ, ◌+◌, ◌-◌, ◌*◌, ◌/◌, ◌%◌, ◌<◌, ◌≤◌, inl, inr, List, bit_xor, slice_index_or, sym, ap, ap₂, ◌∙◌, arith, lt-ltb, mod-lt}
use Rattle.std.specs.Int.Bits.{xor_zero_l, xor_zero_r}
use Rattle.std.proofs.lemmas.Bool.{cases_lt}
use Rattle.std.proofs.lemmas.Nat.{xor_block}
use Rattle.ring_core.specs.Ring.{IsElem}
use Rattle.ring_core.specs.Written.{IsWritten}
use Rattle.residue_field.specs.Base.{Base, ops_of, size_of}
use Rattle.residue_field.proofs.BaseLaws.{base_ring}
use Rattle.field_tower.specs.steps.Shuffles.{AreMultiples, looked_up}
use Rattle.field_tower.proofs.BaseValues.{elem-is}
use Rattle.field_tower.proofs.KindValues.{binary_sum}

-- a number is the exclusive or of its lowest four bits and of the others
parts : (x : ℕ) → bit_xor (x % 16) (x / 16 * 16) ≡ x
parts x =
    let low : x % 16 ≡ 0 * 16 + x % 16 = omega arith in
    let high : x / 16 * 16 ≡ x / 16 * 16 + 0 = omega arith in
    let whole : x / 16 * 16 + x % 16 ≡ x = omega arith in
    ap₂ bit_xor low high ∙ xor_block 4 0 (x / 16) (x % 16) 0 (mod-lt x (omega arith)) (omega arith)
    ∙ ap₂ (λ a b. a * 16 + b) (xor_zero_l (x / 16)) (xor_zero_r (x % 16)) ∙ whole

module _ (k : Base) (two : k.p ≡ 2) (c : ℕ) (c_in : IsElem (ops_of k) c) (low high : List ℕ) (lows : AreMultiples k c 1 low) (highs : AreMultiples k c 16 high) (small : size_of k ≤ 256) where
  -- a product with a code
  pub looked_up-is : (x : ℕ) → x < size_of k → looked_up low high x ≡ (ops_of k).mul c x
  looked_up-is x l =
      let mul = (ops_of k).mul in
      let code : (y : ℕ) → y ≤ x → IsElem (ops_of k) y = λ y m. elem-is k y ∙ lt-ltb y (size_of k) (omega arith) in
      let closed = (base_ring k).closed in
      let one : x % 16 * 1 ≡ x % 16 = omega arith in
      let first : x % 16 ≤ x = omega arith in
      let others : x / 16 * 16 ≤ x = omega arith in
      ap₂ bit_xor (lows.value (x % 16) (omega arith) (omega arith) ∙ ap (mul c) one) (highs.value (x / 16) (omega arith) (omega arith))
      ∙ binary_sum k two _ _ (closed.mul_in _ _ c_in (code _ first)) (closed.mul_in _ _ c_in (code _ others))
      ∙ sym ((base_ring k).mul_add c _ _ c_in (code _ first) (code _ others))
      ∙ ap (mul c) (sym (binary_sum k two _ _ (code _ first) (code _ others)) ∙ parts x)

-- what is written after what was written
pub written_on : (at n p m : ℕ) (f g : ℕ → ℕ) (before mid after : List ℕ) → IsWritten 0 at n f before mid → IsWritten 0 p m g mid after → p ≡ at + n → ((k : ℕ) → k < m → g k ≡ f (n + k))
    → (s : ℕ) → s ≡ n + m → IsWritten 0 at s f before after
written_on at n p m f g before mid after first then place values s sum = record {
  inside = λ k l.
      elim (cases_lt k n) [
        | inl low ↦ then.outside (at + k) (inl (omega arith)) ∙ first.inside k low
        | inr high ↦
            let here : at + k ≡ p + (k - n) = omega arith in
            let there : n + (k - n) ≡ k = omega arith in
            ap (λ i. slice_index_or after i 0) here ∙ then.inside (k - n) (omega arith) ∙ values (k - n) (omega arith) ∙ ap f there
      ];
  outside = λ i o.
      then.outside i (elim o [ inl a ↦ inl (omega arith) | inr a ↦ inr (omega arith) ])
      ∙ first.outside i (elim o [ inl a ↦ inl a | inr a ↦ inr (omega arith) ]);
}
