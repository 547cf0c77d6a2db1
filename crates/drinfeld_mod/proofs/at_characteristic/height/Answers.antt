use Rattle.std.proofs.Common.{sym, ◌∙◌}
use Rattle.drinfeld_mod.proofs.Heights.{image_nonzero, degree_positive, height_found}
use Rattle.drinfeld_mod.proofs.at_characteristic.height.Goals as goal

pub unreachable-requires : goal.unreachable-requires
unreachable-requires g c =
    let k = c.args.field.now in
    image_nonzero _ _ _ _ _ (g.met.K.Field.laws k) (g.met.K.Base.Field.laws (g.K.FrobField.base_of k)) (g.met.K.FrobField.frob_laws k) _ c.requires _ c.in_ok-p.ensures
    (sym c.in_ok-image.ensures.value ∙ c.in_default.ensures)

pub nonzero_div-result : goal.nonzero_div-result
nonzero_div-result g c =
    let k = c.args.field.now in
    rw c.len.ensures
    (degree_positive _ _ _ _ _ (g.met.K.Field.laws k) (g.met.K.Base.Field.laws (g.K.FrobField.base_of k)) (g.met.K.FrobField.frob_laws k) _ c.requires _ c.in_ok-p.ensures
    c.in-Some.lowest (rw (c.new-ring.ensures, c.in_ok-image.ensures.value) at c.in-Some.ensures))

pub returns : goal.returns
returns g c =
    let k = c.args.field.now in
    rw c.len.ensures
    (height_found _ _ _ _ _ (g.met.K.Field.laws k) (g.met.K.Base.Field.laws (g.K.FrobField.base_of k)) (g.met.K.FrobField.frob_laws k) _ c.requires _ c.in_ok-p.ensures
    c.in-Some.lowest (rw (c.new-ring.ensures, c.in_ok-image.ensures.value) at c.in-Some.ensures))
