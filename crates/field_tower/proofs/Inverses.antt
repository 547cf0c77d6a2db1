-- What makes one of a product is the inverse, and only zero has none.
use Rattle.std.proofs.Common.{◌≡◌, ◌≢◌, Option, Some, None, MatchOption, sym, refl, ap, ◌∙◌}
use Rattle.ring_core.specs.Ring.{RingOps, IsElem}
use Rattle.ring_core.specs.Field.{IsField}
use Rattle.ring_core.proofs.Carrier.{elements, zero_mul}

module _ {E : Type 0} (r : RingOps E) (inv : E → Option E) (k : IsField r inv) where
  inverse_same : (a x : E) → IsElem r a → IsElem r x → r.mul a x ≡ r.one → (o : Option E) → MatchOption o (a ≡ r.zero) (λ b. IsElem r b × (r.mul a b ≡ r.one)) → Some x ≡ o
  inverse_same a x p q e None z =
      absurd (k.one_ne_zero (sym e ∙ ap (λ y. r.mul y x) z ∙ ap (λ y. y.0) (zero_mul (elements k.ring) (x, q))))
  inverse_same a x p q e (Some b) inverse =
      let ring = k.ring in
      ap Some (sym (ring.mul_one x q) ∙ ap (r.mul x) (sym inverse.1) ∙ sym (ring.mul_assoc x a b q p inverse.0)
      ∙ ap (λ y. r.mul y b) (k.mul_comm x a q p ∙ e) ∙ ring.one_mul b inverse.0)

  pub inverse_from : (a x : E) → IsElem r a → IsElem r x → r.mul a x ≡ r.one → Some x ≡ inv a
  inverse_from a x p q e = inverse_same a x p q e (inv a) (k.inv_is a p)

  none_same : (a : E) → (a ≢ r.zero → ⊥) → (o : Option E) → MatchOption o (a ≡ r.zero) (λ b. IsElem r b × (r.mul a b ≡ r.one)) → None ≡ o
  none_same a never None z = refl
  none_same a never (Some b) inverse =
      absurd (never (λ z. k.one_ne_zero (sym inverse.1 ∙ ap (λ y. r.mul y b) z ∙ ap (λ y. y.0) (zero_mul (elements k.ring) (b, inverse.0)))))

  pub inverse_none : (a : E) → IsElem r a → (a ≢ r.zero → ⊥) → None ≡ inv a
  inverse_none a p never = none_same a never (inv a) (k.inv_is a p)
