-- What a comparison answers decides equality.
use Rattle.std.proofs.Common.{◌≡◌, Bool, sym, ◌∙◌, ap, ap₂, subst}
use Rattle.std.specs.Prelude.{IsTrue, ◌↔◌}
use Rattle.ring_core.specs.Ring.{RingOps, IsElem, SameDecides}

pub decided : {E : Type 0} (r : RingOps E) (d : SameDecides r) (a b x y : E) (answer : Bool) → IsElem r a → IsElem r b
    → answer ≡ r.same a b → a ≡ x → b ≡ y → IsTrue answer ↔ (x ≡ y)
decided r d a b x y answer p q e f g = (
  λ yes. sym f ∙ d.same_eq a b p q (sym e ∙ yes) ∙ g,
  λ same. e ∙ ap (λ v. r.same a v) (g ∙ sym same ∙ sym f) ∙ d.same_refl a p,
)
