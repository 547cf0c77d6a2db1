use Rattle.std.proofs.Common.{◌≡◌, true, None, option_map, sym, ap, subst, ◌∙◌}
use Rattle.statement_operands.specs.Demands.{demands}
use Rattle.statement_work.specs.Refusals.{work_refusal}
use Rattle.statement_work.specs.Results.{named_value}
use Rattle.statement_work.specs.Works.{Works}
use Rattle.session.specs.Steps.{added}
use Rattle.kept_lists.specs.Pairs.{pairs_of}
use Rattle.statement_work.specs.Keeps.{is_kept_count}
use Rattle.statement_work.proofs.Keeping.{plain_pairs, naming_is_plain, count_gives_none}
use Rattle.session.proofs.Keeping.{on_err}
use Rattle.session.proofs.Named.{some_name, no_name, given_name}
use Rattle.session.proofs.over.answer_over.Goals as goal
use Rattle.session.proofs.over.answer_over.Goals.{in-Some+in_ok-give_name, in_default}

pub returns-clause-ok : goal.returns-clause-ok
returns-clause-ok c =
    let a = c.in_ok-answer.answer in
    let same = c.in_ok-key.ensures.same in
    let ok = subst (λ ns. (work_refusal c.args.t.now ns c.args.form.now ≡ None) × Works c.args.t.now ns c.args.form.now a) same c.in_ok-answer.ensures.ok in
    let gives = (demands c.args.form.now).gives in
    let key : option_map (λ k. k.items) c.in_ok-key.key ≡ option_map (λ n. n.bytes) gives = c.in_ok-key.ensures.key ∙ ap (λ d. option_map (λ n. n.bytes) d.gives) c.requires.asked in (
      ok.0,
      ok.1,
      elim c.match-key-2.branch [
        | in-Some+in_ok-give_name w ↦
            w.names-is ∙ w.in_ok-give_name.ensures.ok ∙ ap (added w.in-Some.key.items (named_value a)) same
            ∙ some_name gives w.in-Some.key.items (named_value a) c.args.names.now (ap (option_map (λ k. k.items)) (sym w.in-Some.is) ∙ key)
        | in_default w ↦ w.names-is ∙ same ∙ no_name gives (named_value a) c.args.names.now (ap (option_map (λ k. k.items)) (sym w.in_default.is) ∙ key)
      ],
    )

pub returns-in_err-key-clause-counted : goal.returns-in_err-key-clause-counted
returns-in_err-key-clause-counted c = λ h.
    absurd (c.in_err-key.ensures.none (ap (λ d. d.gives) c.requires.asked ∙ count_gives_none c.args.t.now c.args.names.now c.args.form.now (pairs_of c.args.kept.now) h))

pub returns-in_err-answer-clause-counted : goal.returns-in_err-answer-clause-counted
returns-in_err-answer-clause-counted c = λ h.
    absurd (c.in_err-answer.ensures.counted (subst (λ ns. is_kept_count c.args.t.now ns c.args.form.now (pairs_of c.args.kept.now) ≡ true) (sym c.in_ok-key.ensures.same) h))

pub returns-in_err-give_name-clause-unkept : goal.returns-in_err-give_name-clause-unkept
returns-in_err-give_name-clause-unkept c =
    let t = c.args.t.now in
    let form = c.args.form.now in
    let pairs = pairs_of c.args.kept.now in
    let name = given_name (demands form).gives c.in-Some.key.items (ap (option_map (λ k. k.items)) (sym c.in-Some.is) ∙ c.in_ok-key.ensures.key ∙ ap (λ d. option_map (λ n. n.bytes) d.gives) c.requires.asked) in
    on_err _ (c.in_ok-answer.ensures.pairs ∙ sym (plain_pairs t c.room.new.names form pairs (naming_is_plain form name.0 name.1)))
