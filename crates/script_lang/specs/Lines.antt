-- The lines of a script, and what a line says. 10 is the line feed, 13 the carriage return, 35 `#`.
use Rattle.std.specs.Prelude.{ℕ, Bool, ◌||◌, List, [], ◌∷◌, ◌==◌, if◌then◌else◌}
use Rattle.std.specs.List.{before_first, list_all}
use Rattle.std.specs.Str.Lines.{strip_carriage_return}

-- The byte put in front of the first line, which it begins where there is none.
abbrev pub with_first : ℕ → List (List ℕ) → List (List ℕ)
with_first b [] = (b ∷ []) ∷ []
with_first b (l ∷ ls) = (b ∷ l) ∷ ls

-- The bytes split at each line feed. What follows the last line feed is a line where it isn't empty.
abbrev pub lines : List ℕ → List (List ℕ)
lines [] = []
lines (b ∷ bs) = if b == 10 then [] ∷ lines bs else with_first b (lines bs)

-- A line without one carriage return at its end, and without all from the first `#` on.
abbrev pub content : List ℕ → List ℕ
content line = before_first (λ b. b == 35) (strip_carriage_return line)

-- A space or a tab.
abbrev pub is_space : ℕ → Bool
is_space b = (b == 32) || (b == 9)

-- The line has no statement.
abbrev pub is_blank : List ℕ → Bool
is_blank line = list_all is_space (content line)
