-- What contracts see of the source and the sink in memory that fail at chosen calls.
use Rattle.std.specs.Prelude.{ℕ, ◌==◌, Bool, List}
use Rattle.std.specs.List.{list_any}
use Rattle.text_io.specs.Bytes.{next_count}

-- A source: the bytes still to come, the most that one call gives, the numbers of the calls that
-- fail, counted from 1, the count of faults and the number of calls so far.
pub record SourceState : Type 0 where
  pub coming : List ℕ
  pub most : ℕ
  pub fails : List ℕ
  pub faults : ℕ
  pub calls : ℕ

-- A sink: the bytes that it gained, the most bytes that it can hold, and the rest as above.
pub record SinkState : Type 0 where
  pub written : List ℕ
  pub room : ℕ
  pub most : ℕ
  pub fails : List ℕ
  pub faults : ℕ
  pub calls : ℕ

-- Whether the call that follows `calls` calls is one of `fails`.
abbrev pub is_due : List ℕ → ℕ → Bool
is_due fails calls = list_any (λ number. number == next_count calls) fails
