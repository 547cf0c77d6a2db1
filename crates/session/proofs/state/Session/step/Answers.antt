use Rattle.std.proofs.Common.{◌≡◌, true, None, sym, ap, subst, ◌∙◌}
use Rattle.std.proofs.lemmas.Option.{none-some}
use Rattle.kept_lists.specs.Pairs.{pairs_of}
use Rattle.statement_operands.specs.Demands.{demands}
use Rattle.session.specs.Kept.{pairs_next, is_count_of_kept}
use Rattle.session.specs.State.{State}
use Rattle.session.specs.Refusals.{field_refusal, name_refusal}
use Rattle.session.proofs.Granted.{granted}
use Rattle.session.proofs.Keeping.{pairs_top, count_free}
use Rattle.session.proofs.Stepping.{needs_top, no_top}
use Rattle.session.proofs.state.Session.step.Goals as goal

pub answer_over-requires-clause-known : goal.answer_over-requires-clause-known
answer_over-requires-clause-known c =
    let st : State = record { field = c.self.inside.field; names = c.self.inside.names } in
    (granted st _ (sym (c.name_refusal.ensures ∙ ap (name_refusal st) c.asked_by-d.ensures) ∙ c.in-None.is)).known

pub answer_over-requires-clause-kind : goal.answer_over-requires-clause-kind
answer_over-requires-clause-kind c =
    let st : State = record { field = c.self.inside.field; names = c.self.inside.names } in
    (granted st _ (sym (c.name_refusal.ensures ∙ ap (name_refusal st) c.asked_by-d.ensures) ∙ c.in-None.is)).kind

pub answer_over-requires-clause-free : goal.answer_over-requires-clause-free
answer_over-requires-clause-free c =
    let st : State = record { field = c.self.inside.field; names = c.self.inside.names } in
    (granted st _ (sym (c.name_refusal.ensures ∙ ap (name_refusal st) c.asked_by-d.ensures) ∙ c.in-None.is)).free

pub answer_over-requires-clause-over : goal.answer_over-requires-clause-over
answer_over-requires-clause-over c =
    let st : State = record { field = c.self.inside.field; names = c.self.inside.names } in
    let free = granted st (demands c.args.statement.now.form) (sym (c.name_refusal.ensures ∙ ap (name_refusal st) c.asked_by-d.ensures) ∙ c.in-None.is) in
    needs_top _ c.in-Top.t (subst (λ k. field_refusal (demands c.args.statement.now.form).field k ≡ None) c.in-Top.is free.field)

pub set_field-requires : goal.set_field-requires
set_field-requires c =
    let st : State = record { field = c.self.inside.field; names = c.self.inside.names } in
    record {
      low = no_top _ c.in_default.not-Top;
      asked = (granted st _ (sym (c.name_refusal.ensures ∙ ap (name_refusal st) c.asked_by-d.ensures) ∙ c.in-None.is)).field;
      within = c.requires;
    }

pub returns-in-Some-clause-counted : goal.returns-in-Some-clause-counted
returns-in-Some-clause-counted c = λ h.
    let form = c.args.statement.now.form in
    let st : State = record { field = c.self.inside.field; names = c.self.inside.names } in
    let counts : is_count_of_kept st form (pairs_of c.self.inside.kept) ≡ true = subst (λ s. is_count_of_kept s.state form s.pairs ≡ true) (sym c.self.view_is) h in
    let free = count_free c.self.inside.field c.self.inside.names form c.self.inside.kept c.self.invariant.full counts in
    absurd (none-some _ (sym (sym c.in-Some.is ∙ c.name_refusal.ensures ∙ ap (name_refusal st) c.asked_by-d.ensures ∙ free)))

pub returns-in-Top-clause-kept : goal.returns-in-Top-clause-kept
returns-in-Top-clause-kept c =
    let form = c.args.statement.now.form in
    let st : State = record { field = c.self.inside.field; names = c.self.inside.names } in
    let r = c.answer_over.result in
    let after = pairs_of c.answer_over.new.kept in
    subst (λ s. after ≡ pairs_next s.state form r s.pairs) c.self.view_is
    (pairs_top st form c.in-Top.t r (pairs_of c.self.inside.kept) after c.in-Top.is c.answer_over.ensures.pairs c.answer_over.ensures.unkept)
