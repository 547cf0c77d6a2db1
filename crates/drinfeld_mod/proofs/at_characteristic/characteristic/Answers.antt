use Rattle.std.proofs.Common.{ap, ◌∙◌}
use Rattle.std.proofs.lemmas.Bool.{and_parts}
use Rattle.ring_core.proofs.Coefficients.{elem_read}
use Rattle.drinfeld_mod.proofs.at_characteristic.characteristic.Goals as goal

pub min_poly-requires : goal.min_poly-requires
min_poly-requires g c =
    let k = c.args.field.now in
    let r = g.K.Field.ops k in
    ap r.is_elem (c.constant-constant.ensures r)
    ∙ elem_read r c.args.phi.now (g.met.K.Field.laws k).ring.closed.zero_in (and_parts _ _ c.requires.canonical).0 0
