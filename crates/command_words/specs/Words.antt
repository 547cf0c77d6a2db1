-- The words of the command line, by the definitions of `clap`: which words it refuses, and what the others ask for.
use Rattle.std.specs.Prelude.{ℕ, pos, true, false, Some, option_map, List, ◌∷◌, map, codes, String, string_bytes}
use Rattle.std.specs.Option.{option_map_or}
use Rattle.std.specs.Str.{bytes_eq}
use Rattle.std.specs.Str.Parse.{digits_value, without_leading_plus}
use Rattle.clap.specs.Words.{App, Kinds, Row, Rule, Text, fault_of, first_of, matches_of, new_app, new_rule, one_of, with_rule}
use Rattle.clap.specs.declared.builder.ArgAction.TheVariants.{Set, SetTrue}
use Rattle.clap.specs.declared.builder.ValueParser.TheVariants.{Signed}
use Rattle.command_words.specs.declared.words.Options.{Options}

-- `--echo`, a flag.
abbrev pub echo_rule : Rule
echo_rule = record (new_rule (codes "echo")) { long = Some (codes "echo"); action = Some SetTrue }

-- `--sample N`, an option whose value is a number from 0 to 4,294,967,295.
abbrev pub sample_rule : Rule
sample_rule = record (new_rule (codes "sample")) { long = Some (codes "sample"); action = Some Set; parser = Some (Signed (pos 0) (pos 4294967295)) }

abbrev pub bare : App
bare = new_app (codes "drinfeld")

-- The command: the two, and no flags for help and for a version.
abbrev pub command : App
command = with_rule (with_rule (record bare { top = record bare.top { disable_help_flag = true; disable_version_flag = true } }) echo_rule) sample_rule

abbrev pub texts_of : {Z : Type 0} → List (String Z) → List Text
texts_of words = map (λ w. string_bytes w) words

-- The program's name, and the words after it.
abbrev pub line_of : List Text → List Text
line_of words = codes "drinfeld" ∷ words

-- The causes for which the command refuses the words; it takes them where there are none.
unfoldable pub refusals : List Text → Kinds
refusals words = fault_of command (line_of words)

-- What the command finds in the words.
abbrev pub found_in : List Text → List Row
found_in words = matches_of command (line_of words)

-- The number that a text with or without a plus stands for.
abbrev pub number_of : Text → ℕ
number_of text = digits_value 10 (without_leading_plus text)

-- What words that the command takes ask for: whether answers are echoed, and the number of the sample.
unfoldable pub options_of : List Text → Options
options_of words = record {
  echo = option_map_or (λ t. bytes_eq t (codes "true")) (first_of (codes "echo") (found_in words)) false;
  sample = option_map number_of (one_of (codes "sample") (found_in words));
}
