use Rattle.std.proofs.Common.{◌-◌, length, ap, ap₂, ◌∙◌, subst}
use Rattle.ring_core.specs.Coeffs.{trim, first_values}
use Rattle.linear_algebra.specs.Linear.{row_at, are_rows}
use Rattle.flat_modules.specs.Flat.{are_flat, IsRelationOf, IsStandardBasis}
use Rattle.central_coords.proofs.Places.{extension}
use Rattle.hom_space.specs.steps.Reading.{AreReadRows}
use Rattle.hom_space.proofs.SystemRows.{system_shape, some_rows, matrix_flat, full_made}
use Rattle.hom_space.proofs.whole.full.Goals as goal

pub square-requires-clause-rows : goal.square-requires-clause-rows
square-requires-clause-rows g c =
    let k = c.args.k.now in
    let o = extension (g.met.K.Field.laws k) (g.met.K.Base.Field.laws (g.K.FrobField.base_of k)) (g.met.K.FrobField.frob_laws k) in
    ap₂ (λ y w. are_rows (g.K.Base.Field.ops y) w c.in_ok-rows.rows.rows) c.base.ensures c.in_ok-rows.ensures.width
    ∙ system_shape o (c.args.phi.now, c.requires.source.canonical) (c.args.psi.now, c.requires.target.canonical) (c.degree.result - 1) _ _ c.as_slice.ensures c.as_slice-2.ensures c.in_ok-rows.rows.rows c.in_ok-rows.ensures.rows

pub square-requires-clause-some : goal.square-requires-clause-some
square-requires-clause-some g c =
    let k = c.args.k.now in
    let o = extension (g.met.K.Field.laws k) (g.met.K.Base.Field.laws (g.K.FrobField.base_of k)) (g.met.K.FrobField.frob_laws k) in
    some_rows o (c.args.phi.now, c.requires.source.canonical) (c.args.psi.now, c.requires.target.canonical) c.degree.result c.degree.ensures _ _ c.as_slice.ensures c.as_slice-2.ensures c.in_ok-rows.rows.rows c.in_ok-rows.ensures.rows

pub relations_flat-requires : goal.relations_flat-requires
relations_flat-requires g c =
    let k = c.args.k.now in
    let o = extension (g.met.K.Field.laws k) (g.met.K.Base.Field.laws (g.K.FrobField.base_of k)) (g.met.K.FrobField.frob_laws k) in
    let rows = c.in_ok-rows.rows.rows in
    ap₂ (λ y m. are_flat (g.K.Base.Field.ops y) m) c.base-2.ensures (c.in_ok-matrix.ensures.rows ∙ ap (λ y. first_values (length rows) (λ i. trim (g.K.Base.Field.ops y) (row_at rows i))) c.base.ensures)
    ∙ matrix_flat o (c.args.phi.now, c.requires.source.canonical) (c.args.psi.now, c.requires.target.canonical) c.degree.result c.degree.ensures _ _ c.as_slice.ensures c.as_slice-2.ensures c.in_ok-rows.rows.rows c.in_ok-rows.ensures.rows

pub returns : goal.returns
returns g c =
    let k = c.args.k.now in
    let o = extension (g.met.K.Field.laws k) (g.met.K.Base.Field.laws (g.K.FrobField.base_of k)) (g.met.K.FrobField.frob_laws k) in
    let rows = c.in_ok-rows.rows.rows in
    let flat = c.in_ok-matrix.matrix in
    let basis = c.in_ok-basis.basis.rows in
    let list = c.in_ok-read_flat.field-0.items in
    full_made o (c.args.phi.now, c.requires.source.canonical) (c.args.psi.now, c.requires.target.canonical) c.degree.result c.degree.ensures _ _ c.as_slice.ensures c.as_slice-2.ensures c.in_ok-rows.rows.rows c.in_ok-rows.ensures.rows flat.rows flat.width basis list
    (c.in_ok-matrix.ensures.rows ∙ ap (λ y. first_values (length rows) (λ i. trim (g.K.Base.Field.ops y) (row_at rows i))) c.base.ensures) c.in_ok-matrix.ensures.width
    (subst (λ y. IsStandardBasis (g.K.Base.Field.ops y) (length flat.rows) (IsRelationOf (g.K.Base.Field.ops y) flat.width flat.rows) basis) c.base-2.ensures c.in_ok-basis.ensures.basis)
    (subst (λ x. AreReadRows (g.K.Field.ops k) (g.K.Base.Field.ops (g.K.FrobField.base_of k)) (g.K.FrobField.frob_ops k) x list) c.as_slice-3.ensures c.in_ok-read_flat.ensures)
