-- What is read of what `clap` found is what the words ask for.
use Rattle.std.proofs.Common.{◌≡◌, false, Option, option_map, List, codes, ◌∙◌, ap, ap₂}
use Rattle.std.specs.Option.{option_map_or}
use Rattle.std.specs.Str.{bytes_eq}
use Rattle.clap.specs.Words.{Text, first_of, found_of, one_of, rows_of}
use Rattle.clap.specs.declared.ArgMatches.{ArgMatches}
use Rattle.clap.proofs.WalkLemmas.{first_value-rows, one_text-rows}
use Rattle.command_words.specs.declared.words.Options.{Options}
use Rattle.command_words.specs.Words.{found_in, number_of, options_of}
use Rattle.command_words.specs.steps.Found.{options_in}

abbrev options : Option Text → Option Text → Options
options echo sample = record { echo = option_map_or (λ t. bytes_eq t (codes "true")) echo false; sample = option_map number_of sample }

pub options_found : (m : ArgMatches) (words : List Text) → rows_of (found_of m) ≡ found_in words → options_in m ≡ options_of words
unfolding options_of
options_found m words e =
    ap₂ options (first_value-rows (found_of m) (codes "echo") ∙ ap (first_of (codes "echo")) e)
    (one_text-rows (found_of m) (codes "sample") ∙ ap (one_of (codes "sample")) e)
