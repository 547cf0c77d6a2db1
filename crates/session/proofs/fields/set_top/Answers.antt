use Rattle.std.proofs.Common.{◌≡◌, refl, sym, subst}
use Rattle.answer.specs.declared.Answer.TheVariants as answer
use Rattle.answer.specs.declared.FieldState.TheVariants as field
use Rattle.session.specs.Sound.{OverBase}
use Rattle.session.specs.Steps.{SetsTop}
use Rattle.session.proofs.fields.set_top.Goals as goal

pub returns-in-Ok-clause-ok : goal.returns-in-Ok-clause-ok
returns-in-Ok-clause-ok c =
    let is : c.args.field.now ≡ field.Base c.in-Base.base = cc in
    let made = c.in-Ok.ensures.value in
    subst (λ f. OverBase f (λ k. SetsTop k c.args.n c.args.modulus.now (answer.N c.args.n) (field.Top c.in-Ok.t))) (sym is)
    (c.in-Ok.t, made.0, made.1, made.2, refl, refl)
