use Rattle.std.proofs.Common.{◌*◌, ◌+◌, ◌-◌, ◌++◌, ap, ap₂, ◌∙◌}
use Rattle.ring_core.specs.Coeffs.{first_values}
use Rattle.central_coords.specs.Coordinates.{coordinate_row}
use Rattle.hom_space.proofs.Shifts.{shifted_parts}
use Rattle.hom_space.proofs.from_full.shifted.Goals as goal

pub returns : goal.returns
returns g c =
    let r = g.K.Field.ops c.args.k.now in
    let f = g.K.FrobField.frob_ops c.args.k.now in
    let base = g.K.Base.Field.ops (g.K.FrobField.base_of c.args.k.now) in
    let d = c.args.d in
    let e = c.args.e in
    let zeros = c.in_ok-row.ensures.value ∙ ap (λ y. first_values (e * c.degree.result * c.degree-2.result) (λ i. (g.K.Base.Field.ops y).zero)) c.base.ensures
    ∙ ap₂ (λ m n. first_values (e * m * n) (λ i. base.zero)) c.degree.ensures c.degree-2.ensures in
    let rest = c.deref.ensures.value ∙ c.in_ok-rest.ensures ∙ ap (λ m. coordinate_row r f ((d + 1 - e * m) * f.degree) c.args.u.now) c.degree.ensures in
    c.in_ok-extend_from_slice.ensures.items ∙ ap₂ ◌++◌ zeros rest ∙ shifted_parts r base f d e c.args.u.now c.requires.fits
