-- The sizes of the fields.
use Rattle.std.specs.Prelude.{ℕ}

-- A base field has at most this many elements.
abbrev pub most_codes : ℕ
most_codes = 65536

-- A top field has at most this degree over its base.
abbrev pub most_places : ℕ
most_places = 16
