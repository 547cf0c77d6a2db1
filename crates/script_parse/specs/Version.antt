-- The limits of a version of the language, and their values.
use Rattle.std.specs.Prelude.{ℕ, List, [], ◌∷◌}
use Rattle.script_parse.specs.declared.version.Limits.{Limits as CodeLimits}

-- The most bytes of a script, statements, statements that give a name, and bytes of a name; the greatest typed
-- number and exponent of `a` or `z`; the primes that a base may have and the most elements of it; the greatest
-- degree of a top, rank of a typed module, and degree of a twisted polynomial; the greatest typed exponent of
-- `T`, and bound of a list of homomorphisms.
pub record Limits : Type 0 where
  pub script : ℕ
  pub statements : ℕ
  pub names : ℕ
  pub name : ℕ
  pub number : ℕ
  pub exponent : ℕ
  pub primes : List ℕ
  pub base : ℕ
  pub top : ℕ
  pub rank : ℕ
  pub degree : ℕ
  pub image : ℕ
  pub bound : ℕ

abbrev pub version_1 : Limits
version_1 = record {
  script = 65536;
  statements = 1000;
  names = 256;
  name = 32;
  number = 999999999;
  exponent = 128;
  primes = 2 ∷ 3 ∷ 5 ∷ 7 ∷ 11 ∷ 13 ∷ 251 ∷ [];
  base = 256;
  top = 12;
  rank = 8;
  degree = 128;
  image = 16;
  bound = 64;
}

-- The limits that the code holds.
abbrev pub limits_of : CodeLimits → Limits
limits_of l = record {
  script = l.script;
  statements = l.statements;
  names = l.names;
  name = l.name;
  number = l.number;
  exponent = l.exponent;
  primes = l.primes.now;
  base = l.base;
  top = l.top;
  rank = l.rank;
  degree = l.degree;
  image = l.image;
  bound = l.bound;
}
