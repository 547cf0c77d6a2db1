use Rattle.std.proofs.Common.{◌≡◌, ◌%◌, ◌<◌, true, sym, subst, ◌∙◌, arith, ap}
use Rattle.ring_core.specs.Coeffs.{are_elems}
use Rattle.residue_field.specs.Base.{ops_of}
use Rattle.residue_field.specs.Top.{Top, ops_of_top}
use Rattle.field_tower.proofs.TopValues.{top_elems}
use Rattle.field_tower.proofs.FrobMap.{images_stored, row_inside, frob_inside}
use Rattle.residue_field.proofs.TopFrob.{top_frob_field}
use Rattle.field_tower.proofs.tower.TowerFrobField.frob.Goals as goal

pub combination-requires-clause-coeffs : goal.combination-requires-clause-coeffs
combination-requires-clause-coeffs c =
    let a = c.args.c in
    subst (λ t. are_elems (ops_of t.base) a.0 ≡ true) (sym c.self.view_is) (top_elems c.args.self.now a c.requires)

pub combination-requires-clause-images : goal.combination-requires-clause-images
combination-requires-clause-images c =
    let inside = c.self.inside in
    let here : Top = record { base = inside.base; n = inside.n; modulus = inside.modulus.items; is_top = inside.is_top } in
    images_stored here _ (c.deref.ensures.value ∙ inside.images_are)

pub combination-requires-clause-row : goal.combination-requires-clause-row
combination-requires-clause-row c =
    let inside = c.self.inside in
    let here : Top = record { base = inside.base; n = inside.n; modulus = inside.modulus.items; is_top = inside.is_top } in
    let positive : 0 < inside.n = inside.is_top.positive in
    let low : c.args.i % inside.n < inside.n = omega arith in
    row_inside here _ (c.deref.ensures.value ∙ inside.images_are) (c.args.i % inside.n) low

pub returns-clause-value : goal.returns-clause-value
returns-clause-value c =
    let inside = c.self.inside in
    let here : Top = record { base = inside.base; n = inside.n; modulus = inside.modulus.items; is_top = inside.is_top } in
    c.combination.ensures
    ∙ frob_inside here _ (c.deref.ensures.value ∙ inside.images_are) c.args.self.now c.self.view_is c.args.c c.args.i c.requires

pub returns-clause-elem : goal.returns-clause-elem
returns-clause-elem c = ap (ops_of_top c.args.self.now).is_elem (returns-clause-value c) ∙ (top_frob_field c.args.self.now).frob_in _ c.args.i c.requires
