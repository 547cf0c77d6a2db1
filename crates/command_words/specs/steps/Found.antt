-- What is read of what `clap` found.
use Rattle.std.specs.Prelude.{◌≡◌, ℕ, pos, List, false, Some, option_map, codes}
use Rattle.std.specs.Option.{option_map_or}
use Rattle.std.specs.Str.{bytes_eq}
use Rattle.clap.specs.Words.{IsSignedIn, first_value, found_of, one_text, without_minus}
use Rattle.clap.specs.declared.ArgMatches.{ArgMatches}
use Rattle.command_words.specs.declared.words.Options.{Options}
use Rattle.command_words.specs.Words.{number_of}

abbrev pub options_in : ArgMatches → Options
options_in m = record {
  echo = option_map_or (λ t. bytes_eq t (codes "true")) (first_value (found_of m) (codes "echo")) false;
  sample = option_map number_of (one_text (found_of m) (codes "sample"));
}

-- The text of the sample's number passed the option's range; a minus before a 0 is left out.
abbrev pub HasNumber : ArgMatches → Type 0
HasNumber m = (t : List ℕ) → one_text (found_of m) (codes "sample") ≡ Some t
    → (s : List ℕ) × (t ≡ without_minus s) × IsSignedIn (pos 0) (pos 4294967295) s
