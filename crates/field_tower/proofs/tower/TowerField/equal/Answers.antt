use Rattle.std.proofs.Common.{◌≡◌, true, sym, ap, subst, ◌∙◌}
use Rattle.ring_core.specs.Coeffs.{are_elems, same_lists}
use Rattle.residue_field.specs.Base.{ops_of}
use Rattle.field_tower.proofs.TopValues.{top-same, top_elems}
use Rattle.field_tower.proofs.tower.TowerField.equal.Goals as goal

pub equal-requires-clause-left : goal.equal-requires-clause-left
equal-requires-clause-left c =
    let a = c.args.a in
    subst (λ t. are_elems (ops_of t.base) a.0 ≡ true) (sym c.self.view_is) (top_elems c.args.self.now a c.requires.left)

pub equal-requires-clause-right : goal.equal-requires-clause-right
equal-requires-clause-right c =
    let b = c.args.b in
    subst (λ t. are_elems (ops_of t.base) b.0 ≡ true) (sym c.self.view_is) (top_elems c.args.self.now b c.requires.right)

pub returns : goal.returns
returns c =
    let a = c.args.a in
    let b = c.args.b in
    c.equal.ensures ∙ ap (λ t. same_lists (ops_of t.base) a.0 b.0) c.self.view_is ∙ top-same c.args.self.now a b
