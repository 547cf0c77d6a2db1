use Rattle.std.proofs.Common.{length, ap₂, subst, ◌∙◌}
use Rattle.linear_algebra.specs.Linear.{are_rows, IsRelation, IsEchelonBasis}
use Rattle.central_coords.proofs.Places.{extension}
use Rattle.hom_space.proofs.SystemRows.{system_shape, bounded_made}
use Rattle.hom_space.proofs.bounded_list.bounded.Goals as goal

pub kernel-requires : goal.kernel-requires
kernel-requires g c =
    let k = c.args.k.now in
    let o = extension (g.met.K.Field.laws k) (g.met.K.Base.Field.laws (g.K.FrobField.base_of k)) (g.met.K.FrobField.frob_laws k) in
    ap₂ (λ y w. are_rows (g.K.Base.Field.ops y) w c.in_ok-rows.rows.rows) c.base.ensures c.in_ok-rows.ensures.width
    ∙ system_shape o (c.args.phi.now, c.requires.source.canonical) (c.args.psi.now, c.requires.target.canonical) c.args.d _ _ c.as_slice.ensures c.as_slice-2.ensures c.in_ok-rows.rows.rows c.in_ok-rows.ensures.rows

pub returns : goal.returns
returns g c =
    let k = c.args.k.now in
    let o = extension (g.met.K.Field.laws k) (g.met.K.Base.Field.laws (g.K.FrobField.base_of k)) (g.met.K.FrobField.frob_laws k) in
    let rows = c.in_ok-rows.rows.rows in
    let basis = c.in_ok-relations.relations.rows in
    bounded_made o (c.args.phi.now, c.requires.source.canonical) (c.args.psi.now, c.requires.target.canonical) c.args.d _ _ c.as_slice.ensures c.as_slice-2.ensures c.in_ok-rows.rows.rows c.in_ok-rows.ensures.rows basis c.in_ok-read_rows.field-0.items
    (subst (λ y. IsEchelonBasis (g.K.Base.Field.ops y) (length rows) (IsRelation (g.K.Base.Field.ops y) rows) basis) c.base.ensures c.in_ok-relations.ensures.basis) c.in_ok-read_rows.ensures
