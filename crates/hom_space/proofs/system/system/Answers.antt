use Rattle.std.proofs.Common.{◌≡◌, ◌+◌, ◌*◌, ◌++◌, max, length, sym, ap, ap₂, ◌∙◌}
use Rattle.ring_core.specs.Coeffs.{coeff, are_elems, first_values}
use Rattle.ring_core.proofs.FirstValues.{length-first_values}
use Rattle.linear_algebra.specs.Linear.{row_at}
use Rattle.central_coords.specs.Coordinates.{coordinate_row}
use Rattle.central_coords.proofs.Places.{extension}
use Rattle.hom_space.specs.steps.System.{turned_list, image_list, system_row}
use Rattle.hom_space.proofs.SystemRows.{all_turned_in, block}
use Rattle.hom_space.proofs.system.system.Goals as goal

pub push_rows-requires-clause-right : goal.push_rows-requires-clause-right
push_rows-requires-clause-right g c =
    let k = c.args.k.now in
    let o = extension (g.met.K.Field.laws k) (g.met.K.Base.Field.laws (g.K.FrobField.base_of k)) (g.met.K.FrobField.frob_laws k) in
    all_turned_in o c.args.psi.now c.deref.result.now c.deref-in-loop-i-3.result.now c.max-s.result c.requires.target
    (ap (are_elems (g.K.Field.ops k)) c.deref.ensures.value ∙ c.in_ok-elements.ensures.elems) (c.deref-in-loop-i-3.ensures.value ∙ c.in_ok-turned.ensures)

pub push_rows-requires-clause-each : goal.push_rows-requires-clause-each
push_rows-requires-clause-each g c =
    ap length (c.deref-in-loop-i-3.ensures.value ∙ c.in_ok-turned.ensures) ∙ length-first_values (length c.deref.result.now) _ ∙ ap length (c.deref.ensures.value ∙ sym c.deref-in-loop-i.ensures.value)

pub loop-i-preserved : goal.loop-i-preserved
loop-i-preserved g c =
    let r = g.K.Field.ops c.args.k.now in
    let f = g.K.FrobField.frob_ops c.args.k.now in
    let base = g.K.Base.Field.ops (g.K.FrobField.base_of c.args.k.now) in
    let phi = c.args.phi.now in
    let psi = c.args.psi.now in
    let d = c.args.d in
    let n = f.degree in
    let i = c.loop-i.i in
    let elements = c.deref-in-loop-i.result.now in
    let turned = c.deref-in-loop-i-3.result.now in
    let most : c.max-s.result ≡ max (length phi) (length psi) = c.max-s.ensures in
    let products =
    c.deref-in-loop-i-3.ensures.value ∙ c.in_ok-turned.ensures
    ∙ ap₂ (λ e s. first_values (length e) (λ j. turned_list r f psi s (coeff r e j))) (c.deref.ensures.value ∙ sym c.deref-in-loop-i.ensures.value) most in
    record {
      width = c.push_rows.ensures.width ∙ c.loop-i.invariant.width;
      rows =
          c.in_ok-push_rows.ensures.rows
          ∙ ap₂ (λ t v. t ++ first_values (length elements) (λ j. coordinate_row r f ((d + c.max-s.result) * n) (image_list r i (coeff r elements j) v (row_at turned j)))) c.loop-i.invariant.rows
          (c.deref-in-loop-i-2.ensures.value ∙ c.in_ok-raised.ensures.value)
          ∙ ap
          (λ s. first_values (i * n) (system_row r base f phi psi (d + s))
          ++ first_values (length elements) (λ j. coordinate_row r f ((d + s) * n) (image_list r i (coeff r elements j) (first_values s (λ m. f.frob (coeff r phi m) i)) (row_at turned j))))
          most
          ∙ block r base f phi psi d i elements turned (c.deref-in-loop-i.ensures.value ∙ c.in_ok-elements.ensures.value) products
          ∙ ap (λ s. first_values ((i + 1) * n) (system_row r base f phi psi (d + s))) (sym most);
    }
