use Rattle.std.proofs.Common.{rules, ◌≡◌, ◌∙◌, true, Some, pos, ap, ap₂}
use Rattle.clap.specs.Words.{App, app_of, rule_of, with_rule}
use Rattle.clap.specs.Simple.{app_of_fields}
use Rattle.clap.specs.declared.builder.ValueParser.TheVariants.{Signed}
use Rattle.command_words.specs.Words.{echo_rule, sample_rule, bare}
use Rattle.command_words.proofs.words.command.Goals as goal

pub returns : goal.returns
returns c =
    let echo : rule_of c.action-echo.result ≡ echo_rule = search rules in
    let given = c.value_parser-sample.ensures.given in
    let parser : c.value_parser-sample.result.value_parser ≡ Some (Signed (pos 0) (pos 4294967295)) = given.1 ∙ ap Some (given.2 ∙ c.value_parser.ensures) in
    let sample : rule_of c.value_parser-sample.result ≡ sample_rule = search rules in
    let plain : App → App = λ a. record a { top = record a.top { disable_help_flag = true; disable_version_flag = true } } in
    let settings : app_of c.disable_version_flag-bare.result ≡ plain bare =
    ap app_of_fields (rw c.disable_help_flag.ensures at c.disable_version_flag-bare.ensures) ∙ ap plain c.new-3.ensures.app in
    c.in_ok-arg-2.ensures.shape (search rules) ∙ ap₂ with_rule (c.in_ok-arg.ensures.shape (search rules) ∙ ap₂ with_rule settings echo) sample
