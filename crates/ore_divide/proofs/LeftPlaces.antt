-- What a step of a left division makes of its place.
use Rattle.std.proofs.Common.{◌≡◌, sym, ◌∙◌, ap}
use Rattle.ring_core.specs.Ring.{RingOps, IsElem, IsRing}
use Rattle.ring_core.proofs.Carrier.{RingOn, elements, same_element, mul_neg}

-- x + t (-(j x)) = 0 where t j = 1
cancelled_left : {M : Type 0} (R : RingOn M) (x j t : M) → R.mul t j ≡ R.one → R.add x (R.mul t (R.neg (R.mul j x))) ≡ R.zero
cancelled_left R x j t e =
    ap (R.add x) (mul_neg R t (R.mul j x) ∙ ap R.neg (sym (R.mul_assoc t j x) ∙ ap (λ y. R.mul y x) e ∙ R.one_mul x)) ∙ R.add_neg x

pub top_cancelled_left : {E : Type 0} (r : RingOps E) (h : IsRing r) (x j t c : E) → IsElem r x → IsElem r j → IsElem r t → r.mul t j ≡ r.one → c ≡ r.neg (r.mul j x) → r.add x (r.mul t c) ≡ r.zero
top_cancelled_left r h x j t c px pj pt e is =
    ap (λ y. r.add x (r.mul t y)) is
    ∙ ap (λ y. y.0) (cancelled_left (elements h) (x, px) (j, pj) (t, pt) (same_element r _ _ e))
