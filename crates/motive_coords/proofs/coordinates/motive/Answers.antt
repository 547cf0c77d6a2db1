use Rattle.std.proofs.Common.{sym, ap₂, ◌∙◌, subst, arith}
use Rattle.ring_core.specs.Coeffs.{first_values}
use Rattle.motive_coords.specs.Motive.{IsMotive}
use Rattle.motive_coords.specs.steps.Expansion.{IsExpansion, column_at}
use Rattle.motive_coords.proofs.Expansions.{motive_from}
use Rattle.motive_coords.proofs.coordinates.motive.Goals as goal

pub returns : goal.returns
returns g c =
    let field = c.args.field.now in
    let r = g.K.Field.ops field in
    let f = g.K.FrobField.frob_ops field in
    let expanded = subst (λ t. IsExpansion r f.frob t c.args.u.now c.in_ok-digits.digits.items) c.in_ok-letter.ensures.value c.in_ok-digits.ensures in
    let listed = c.in_ok-list.ensures ∙ ap₂ (λ n t. first_values n (column_at r f.frob t)) c.rank.ensures c.deref.ensures.value in
    subst (IsMotive r f.frob c.args.phi.now c.args.u.now) (sym listed)
    (motive_from _ _ _ _ (g.met.K.Field.laws field) (g.met.K.FrobField.frob_laws field) c.args.phi.now c.requires.module.canonical
    (let p = c.requires.module.rank_pos in omega (arith, p)) c.args.u.now _ c.requires.elem expanded)
