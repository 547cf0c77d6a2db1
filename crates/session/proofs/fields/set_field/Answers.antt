use Rattle.std.proofs.Common.{◌≡◌, None, refl, subst}
use Rattle.script_statement.specs.declared.Form.TheVariants as form
use Rattle.script_parse.specs.Version.{version_1}
use Rattle.script_parse.specs.Within.{IsWithin}
use Rattle.answer.specs.declared.FieldState.TheVariants as field
use Rattle.statement_operands.specs.Demands.{demands}
use Rattle.session.specs.Refusals.{field_refusal}
use Rattle.session.proofs.Primes.{listed_prime}
use Rattle.session.proofs.Stepping.{at_nothing, at_base, sets_base, sets_top}
use Rattle.session.proofs.fields.set_field.Goals as goal

pub returns-in-Base-clause-ok : goal.returns-in-Base-clause-ok
returns-in-Base-clause-ok c =
    let low : c.args.field.now ≡ field.Nothing =
    at_nothing _ (subst (λ f. field_refusal (demands f).field c.args.field.now ≡ None) c.in-Base.is c.requires.asked) in
    sets_base _ _ _ _ _ _ _ _ low c.in-Base.is refl c.set_base.ensures.ok

pub returns-in-Over-clause-ok : goal.returns-in-Over-clause-ok
returns-in-Over-clause-ok c =
    sets_top _ _ _ _ _ _ (at_base _ (subst (λ f. field_refusal (demands f).field c.args.field.now ≡ None) c.in-Over.is c.requires.asked)) c.in-Over.is c.set_top.ensures.ok

pub set_base-requires-clause-listed : goal.set_base-requires-clause-listed
set_base-requires-clause-listed c =
    let within : IsWithin version_1 (form.Base c.in-Base.p c.in-Base.s c.in-Base.modulus) = subst (IsWithin version_1) c.in-Base.is c.requires.within in
    listed_prime c.in-Base.p within.0
