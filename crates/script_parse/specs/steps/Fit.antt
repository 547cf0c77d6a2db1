-- What the reader asks of the limits of a version, so that a line whose limits are all kept has a form within
-- them.
use Rattle.std.specs.Prelude.{◌≡◌, ◌+◌, ◌<◌, ◌≤◌}
use Rattle.std.specs.List.{All}
use Rattle.script_lang.specs.Tokens.{capped}
use Rattle.script_parse.specs.Version.{Limits}

pub record AreFit (l : Limits) : Type 0 where
  -- a token tells whether its number passes the limit
  pub number : capped (l.number + 1) ≡ l.number + 1
  -- the prime fields are within the limit of bases, and the first powers within those of exponents
  pub primes : All (λ p. p ≤ l.base) l.primes
  pub degree : 0 < l.degree
  pub image : 0 < l.image
  -- the last number of `bounded` may be an exponent, too
  pub bound : l.bound ≤ l.degree
