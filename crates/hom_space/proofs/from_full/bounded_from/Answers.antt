use Rattle.std.proofs.Common.{ap₂, subst, ◌∙◌}
use Rattle.linear_algebra.specs.Linear.{are_rows, IsCombination, IsEchelonBasis}
use Rattle.central_coords.proofs.Places.{extension}
use Rattle.hom_space.proofs.Shifts.{shape, bounded_of_shifts}
use Rattle.hom_space.proofs.from_full.bounded_from.Goals as goal

pub echelon-requires : goal.echelon-requires
echelon-requires g c =
    let k = c.args.k.now in
    let o = extension (g.met.K.Field.laws k) (g.met.K.Base.Field.laws (g.K.FrobField.base_of k)) (g.met.K.FrobField.frob_laws k) in
    let rows = c.in_ok-rows.rows.rows in
    ap₂ (λ y w. are_rows (g.K.Base.Field.ops y) w rows) c.base.ensures c.in_ok-rows.ensures.width ∙ shape o (c.args.phi.now, c.requires.source.canonical) (c.args.psi.now, c.requires.target.canonical) c.args.full.now c.requires.full c.args.d rows c.in_ok-rows.ensures.rows

pub returns : goal.returns
returns g c =
    let k = c.args.k.now in
    let o = extension (g.met.K.Field.laws k) (g.met.K.Base.Field.laws (g.K.FrobField.base_of k)) (g.met.K.FrobField.frob_laws k) in
    let rows = c.in_ok-rows.rows in
    let basis = c.in_ok-basis.basis.rows in
    bounded_of_shifts o (c.args.phi.now, c.requires.source.canonical) (c.args.psi.now, c.requires.target.canonical) c.args.full.now c.requires.full c.args.d rows.rows c.in_ok-rows.ensures.rows rows.width basis c.in_ok-read_rows.field-0.items c.in_ok-rows.ensures.width
    (subst (λ y. IsEchelonBasis (g.K.Base.Field.ops y) rows.width (IsCombination (g.K.Base.Field.ops y) rows.rows) basis) c.base.ensures c.in_ok-basis.ensures.basis) c.in_ok-read_rows.ensures
