-- The limits of version 1 are as the reader asks, and the primes that they list, one after another.
use Rattle.std.proofs.Common.{◌≡◌, ℕ, ◌||◌, nat_eq, ◌≤◌, Bool, true, false, refl, lit≤, lit<}
use Rattle.std.proofs.lemmas.List.Elements.{All-from_recursion}
use Rattle.script_parse.specs.Version.{version_1}
use Rattle.script_parse.specs.Limits.{is_listed}
use Rattle.script_parse.specs.steps.Fit.{AreFit}

pub version_1_fit : AreFit version_1
version_1_fit = record {
  number = refl;
  primes = All-from_recursion (λ p. p ≤ version_1.base) version_1.primes (lit≤ tt, (lit≤ tt, (lit≤ tt, (lit≤ tt, (lit≤ tt, (lit≤ tt, (lit≤ tt, tt)))))));
  degree = lit< tt;
  image = lit< tt;
  bound = lit≤ tt;
}

chain : (a b c d e f g : Bool) → (a || (b || (c || (d || (e || (f || (g || false))))))) ≡ (a || b || c || d || e || f || g)
chain true b c d e f g = refl
chain false true c d e f g = refl
chain false false true d e f g = refl
chain false false false true e f g = refl
chain false false false false true f g = refl
chain false false false false false true g = refl
chain false false false false false false true = refl
chain false false false false false false false = refl

pub listed_primes : (p : ℕ) → is_listed version_1 p ≡ (nat_eq p 2 || nat_eq p 3 || nat_eq p 5 || nat_eq p 7 || nat_eq p 11 || nat_eq p 13 || nat_eq p 251)
listed_primes p = chain (nat_eq p 2) (nat_eq p 3) (nat_eq p 5) (nat_eq p 7) (nat_eq p 11) (nat_eq p 13) (nat_eq p 251)
