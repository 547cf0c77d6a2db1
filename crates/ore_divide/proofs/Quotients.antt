-- Quotient and remainder, once the places of the dividend are cleared.
use Rattle.std.proofs.Common.{◌≡◌, ℕ, ◌+◌, ◌<◌, ◌≤◌, true, Option, List, length, sym, ◌∙◌, ap}
use Rattle.std.proofs.lemmas.Bool.{and_parts}
use Rattle.ring_core.specs.Ring.{RingOps}
use Rattle.ring_core.specs.Field.{IsField, FrobOps, IsFrobField}
use Rattle.ring_core.specs.Coeffs.{coeff, are_elems, is_canonical, trim}
use Rattle.ring_core.specs.Twisted.{list_add}
use Rattle.ring_core.proofs.Coefficients.{trim-trimmed, trimmed-trim, coeff-trim}
use Rattle.ore_divide.specs.declared.side.Side.{Side}
use Rattle.ore_divide.specs.declared.side.Side.TheVariants.{Right, Left}
use Rattle.ore_divide.specs.steps.Sides.{multiple_on, IsDivision}
use Rattle.ring_core.proofs.Degrees.{length_below}
use Rattle.euclid_theory.proofs.OreSizes.{Ores, ores}
use Rattle.ore_divide.proofs.Reduced.{trimmed_ore}

module _ {E B : Type 0} (r : RingOps E) (inv : E → Option E) (base : RingOps B) (f : FrobOps E B) (k : IsField r inv) (l : IsFrobField r base f) where
  -- the rest has fewer coefficients than the divisor
  pub rest_short : (b rest : List E) → are_elems r rest ≡ true → 0 < length b → ((n : ℕ) → length b ≤ n + 1 → coeff r rest n ≡ r.zero) → length (trim r rest) < length b
  rest_short b rest e pos cleared =
      length_below r k.ring (trim r rest) (length b) pos (trimmed-trim r rest)
      (λ n past. coeff-trim r k.ring.closed.zero_in k.ring.equal rest e n ∙ cleared n past)

  module _ (a b rest quotient c left : List E) (ca : is_canonical r a ≡ true) (cb : is_canonical r b ≡ true) (er : are_elems r rest ≡ true) (eq : are_elems r quotient ≡ true)
      (pos : 0 < length b) (cleared : (n : ℕ) → length b ≤ n + 1 → coeff r rest n ≡ r.zero) (is_quotient : c ≡ trim r quotient) (is_rest : left ≡ trim r rest) where
    abbrev Q : Ores r inv base f k l
    Q = trimmed_ore r inv base f k l quotient eq

    abbrev V : Ores r inv base f k l
    V = trimmed_ore r inv base f k l rest er

    whole : a ≡ trim r a
    whole = sym (trim-trimmed r a (and_parts _ _ ca).1)

    divided_on : (s : Side) → trim r a ≡ list_add r (trim r rest) (multiple_on s r f.frob (trim r quotient) b) → IsDivision s r f.frob a b (trim r quotient) (trim r rest)
    divided_on Right e = record {
      quotient = Q.1;
      remainder = V.1;
      sum = whole ∙ e ∙ ap (λ x. x.0) ((ores r inv base f k l).add_comm V ((ores r inv base f k l).mul Q (b, cb)));
      lower = rest_short b rest er pos cleared;
    }
    divided_on Left e = record {
      quotient = Q.1;
      remainder = V.1;
      sum = whole ∙ e ∙ ap (λ x. x.0) ((ores r inv base f k l).add_comm V ((ores r inv base f k l).mul (b, cb) Q));
      lower = rest_short b rest er pos cleared;
    }

    pub division_done : (s : Side) → trim r a ≡ list_add r (trim r rest) (multiple_on s r f.frob (trim r quotient) b) → IsDivision s r f.frob a b c left
    division_done s divided = rw (is_quotient, is_rest) (divided_on s divided)
