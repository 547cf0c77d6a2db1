use Rattle.std.proofs.Common.{◌≡◌, true, sym, ap, subst, ◌∙◌, arith}
use Rattle.ring_core.specs.Ring.{IsElem}
use Rattle.ring_core.specs.Coeffs.{are_elems}
use Rattle.residue_field.specs.Base.{ops_of}
use Rattle.residue_field.specs.Top.{Top, ops_of_top, embed_of}
use Rattle.residue_field.proofs.TopLaws.{top_field}
use Rattle.residue_field.proofs.TopFrob.{top_frob_field}
use Rattle.field_tower.proofs.TopValues.{top_elems}
use Rattle.field_tower.proofs.TopNorm.{scaled_is}
use Rattle.field_tower.proofs.tower.Tower.scaled.Goals as goal

pub add_row-requires-clause-factor : goal.add_row-requires-clause-factor
add_row-requires-clause-factor c = subst (λ k. IsElem (ops_of k.base) c.args.d) (sym c.self.view_is) c.requires.factor

pub add_row-requires-clause-row : goal.add_row-requires-clause-row
add_row-requires-clause-row c =
    let a = c.args.a in
    subst (λ k. are_elems (ops_of k.base) a.0 ≡ true) (sym c.self.view_is) (top_elems c.args.self.now a c.requires.elem)

pub returns-clause-value : goal.returns-clause-value
returns-clause-value c =
    let inside = c.self.inside in
    let here : Top = record { base = inside.base; n = inside.n; modulus = inside.modulus.items; is_top = inside.is_top } in
    let a = c.args.a in
    let d = c.args.d in
    scaled_is here a d (subst (λ k. IsElem (ops_of_top k) a) (sym c.self.view_is) c.requires.elem)
    (subst (λ k. IsElem (ops_of k.base) d) (sym c.self.view_is) c.requires.factor)
    c.zeros-places.result c.add_row.new.out (omega arith) c.zeros-places.ensures.values c.add_row.ensures.added
    ∙ ap (λ k. (ops_of_top k).mul a (embed_of k d)) c.self.view_is

pub returns-clause-elem : goal.returns-clause-elem
returns-clause-elem c =
    let t = c.args.self.now in
    ap (ops_of_top t).is_elem (returns-clause-value c)
    ∙ (top_field t).ring.closed.mul_in _ _ c.requires.elem ((top_frob_field t).embed_in _ c.requires.factor)
