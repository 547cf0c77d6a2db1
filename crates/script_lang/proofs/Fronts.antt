-- What the readers of numbers, letters and exponents find.
use Rattle.std.proofs.Common.{◌≡◌, ◌≢◌, ℕ, ◌<◌, ◌≤◌, None, List, ◌∷◌, ap, arith}
use Rattle.script_lang.specs.declared.lexer.Letter.{Letter}
use Rattle.script_lang.specs.declared.lexer.Sign.TheVariants.{Caret}
use Rattle.script_lang.specs.declared.lexer.Token.{Token}
use Rattle.script_lang.specs.declared.lexer.Token.TheVariants as token
use Rattle.script_lang.specs.declared.sum.Factor.{Factor}
use Rattle.script_lang.specs.declared.sum.Kind.{Kind}
use Rattle.script_lang.specs.Kinds.{letter_factor}
use Rattle.script_lang.specs.Grammar.{IsExponent, IsPlain, IsEnding, binds}
use Rattle.script_lang.proofs.OneReading.{exponent_once}

pub no_caret : (ts : List Token) → ((r : List Token) → ts ≢ token.Sign Caret ∷ r) → binds ts < 3
no_caret ts h = grind arith

pub ending_binds : (k : Kind) (more rest r : List Token) (l : Letter) (n m : ℕ) → IsExponent more rest n → binds rest < 3 → 2 ≤ binds rest
    → IsEnding k (token.Letter l ∷ more) r m → binds r < 2 → ⊥
ending_binds k more rest r l n m x a b (IsEnding.is_ending q y) h = let e = exponent_once x a y (omega arith) in omega (arith, ap binds e.0)

pub letter_refused : (k : Kind) (more rest r : List Token) (l : Letter) (n : ℕ) (f : Factor) → letter_factor k l n ≡ None → IsExponent more rest n → binds rest < 3
    → IsPlain k (token.Letter l ∷ more) r f → binds r < 3 → ⊥
letter_refused k more rest r l n f p x a (IsPlain.is_letter q y) b = let e = exponent_once x a y b in cc

pub ruleset fronts = (IsExponent.absent, IsExponent.present, IsPlain.is_number, IsPlain.is_letter, IsEnding.is_ending)

pub ruleset front_ends = (no_caret, ending_binds, letter_refused)
