-- Left division has one answer.
use Rattle.std.proofs.Common.{◌≡◌, true, Option, List, sym, ◌∙◌, ap}
use Rattle.ring_core.specs.Ring.{RingOps}
use Rattle.ring_core.specs.Field.{IsField, FrobOps, IsFrobField}
use Rattle.ring_core.specs.Coeffs.{is_canonical}
use Rattle.ring_core.specs.Twisted.{twisted_ops}
use Rattle.ring_core.proofs.Carrier.{same_element}
use Rattle.ore_divide.specs.Division.{IsLeftDivision}
use Rattle.euclid_theory.proofs.LeftDivision.{left_quotients_same}
use Rattle.euclid_theory.proofs.OreSizes.{ores, size, ore_sizes}

pub left_division : {E B : Type 0} (r : RingOps E) (inv : E → Option E) (base : RingOps B) (f : FrobOps E B) → IsField r inv → IsFrobField r base f
    → (a b c d rest other : List E) → is_canonical r b ≡ true → IsLeftDivision r f.frob a b c rest → IsLeftDivision r f.frob a b d other → (c ≡ d) × (rest ≡ other)
left_division r inv base f k l a b c d rest other cb p q =
    let same = left_quotients_same (ores r inv base f k l) (size r inv base f k l) (ore_sizes r inv base f k l) (b, cb) (c, p.quotient) (d, q.quotient) (rest, p.remainder) (other, q.remainder)
    (same_element (twisted_ops r f.frob) _ _ (sym p.sum ∙ q.sum)) p.lower q.lower in
    (ap (λ x. x.0) same.0, ap (λ x. x.0) same.1)
