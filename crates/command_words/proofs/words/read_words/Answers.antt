use Rattle.std.proofs.Common.{rules, ◌≡◌, ◌∙◌, map, ap, ap₂, sym, subst, inl, inr}
use Rattle.clap.specs.Words.{IsAmong, fault_of, is_simple, is_simple_and_free, kind_of, matches_of}
use Rattle.command_words.specs.declared.words.WordsStop.TheVariants as stop
use Rattle.command_words.specs.Words.{line_of, refusals, texts_of}
use Rattle.command_words.proofs.Numbers.{sample_number}
use Rattle.command_words.proofs.Asked.{options_found}
use Rattle.command_words.proofs.Taken.{command_simple, command_free}
use Rattle.command_words.proofs.words.read_words.Goals as goal

pub options_in-requires : goal.options_in-requires
options_in-requires c = sample_number _ c.in-Ok-try_get_matches_from.matches c.in-Ok.ensures c.in-Ok-try_get_matches_from.ensures.parsed

pub returns-in-Ok-try_get_matches_from-clause-taken : goal.returns-in-Ok-try_get_matches_from-clause-taken
unfolding refusals
returns-in-Ok-try_get_matches_from-clause-taken c =
    let line : map (λ s. s.now) c.as_slice.result.now ≡ line_of (texts_of c.args.words.now) = search rules in
    let free = ap is_simple_and_free c.in-Ok.ensures ∙ command_free in
    sym (ap₂ fault_of c.in-Ok.ensures line) ∙ c.in-Ok-try_get_matches_from.ensures.kinds free

pub returns-in-Ok-try_get_matches_from-clause-options : goal.returns-in-Ok-try_get_matches_from-clause-options
returns-in-Ok-try_get_matches_from-clause-options c =
    let line : map (λ s. s.now) c.as_slice.result.now ≡ line_of (texts_of c.args.words.now) = search rules in
    let simple = ap is_simple c.in-Ok.ensures ∙ command_simple in
    c.options_in.ensures
    ∙ options_found _ (texts_of c.args.words.now) ((c.in-Ok-try_get_matches_from.ensures.matches simple).0 ∙ ap₂ matches_of c.in-Ok.ensures line)

pub returns-clause-refused : goal.returns-clause-refused
unfolding refusals
returns-clause-refused c = λ is none.
    let line : map (λ s. s.now) c.as_slice.result.now ≡ line_of (texts_of c.args.words.now) = search rules in
    let free = ap is_simple_and_free c.in-Ok.ensures ∙ command_free in
    let refused : c.stop_of.result ≡ stop.Refused = cc in
    elim (c.in-Err.ensures.kinds free) [
      | inl memory ↦ c.stop_of.ensures refused memory
      | inr among ↦ subst (IsAmong (kind_of c.in-Err.error)) (ap₂ fault_of c.in-Ok.ensures line ∙ none) among
    ]
