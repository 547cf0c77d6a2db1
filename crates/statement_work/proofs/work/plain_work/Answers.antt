use Rattle.std.proofs.Common.{◌∙◌}
use Rattle.statement_work.proofs.HeightTold.{ordinary_told, supersingular_told}
use Rattle.statement_work.proofs.MotiveTold.{motive_told}
use Rattle.statement_work.proofs.work.plain_work.Goals as goal

pub returns-in_ok-ordinary-in-Ordinary-clause-ok : goal.returns-in_ok-ordinary-in-Ordinary-clause-ok
returns-in_ok-ordinary-in-Ordinary-clause-ok c =
    ordinary_told c.args.t.now c.args.names.now c.in-Ordinary.phi _ _ c.args.form.now c.in-Ordinary.is c.in_ok-ordinary-in-Ordinary.ensures.ok
    (c.given-in-Ordinary.ensures ∙ c.requires.resolved.phi_is) c.requires.ranked

pub returns-in_ok-supersingular-in-Supersingular-clause-ok : goal.returns-in_ok-supersingular-in-Supersingular-clause-ok
returns-in_ok-supersingular-in-Supersingular-clause-ok c =
    supersingular_told c.args.t.now c.args.names.now c.in-Supersingular.phi _ _ c.args.form.now c.in-Supersingular.is c.in_ok-supersingular-in-Supersingular.ensures.ok
    (c.given-in-Supersingular.ensures ∙ c.requires.resolved.phi_is) c.requires.ranked

pub returns-in_ok-motive-in-Motive-clause-ok : goal.returns-in_ok-motive-in-Motive-clause-ok
returns-in_ok-motive-in-Motive-clause-ok c =
    motive_told c.args.t.now _ c.args.names.now _ _ _ _ c.args.form.now c.in-Motive.is c.in_ok-motive-in-Motive.ensures.ok
    (c.given-in-Motive.ensures ∙ c.requires.resolved.phi_is) (c.given-in-Motive-2.ensures ∙ c.requires.resolved.u_is) c.requires.ranked
