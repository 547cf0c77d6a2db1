-- The primes of a script are among those that a base field may stand on.
use Rattle.std.proofs.Common.{◌≡◌, ℕ, ◌||◌, nat_eq, true, sym, ap, ◌∙◌}
use Rattle.residue_field.specs.Prime.{is_listed}
use Rattle.script_parse.specs.Version.{version_1}
use Rattle.script_parse.specs.Limits.{is_listed as is_listed_for}
use Rattle.script_parse.proofs.VersionFit.{listed_primes}

pub listed_prime : (p : ℕ) → is_listed_for version_1 p ≡ true → is_listed p ≡ true
listed_prime p e = ap (λ b. b || nat_eq p 257) (sym (listed_primes p) ∙ e)
