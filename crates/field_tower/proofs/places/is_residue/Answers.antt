use Rattle.std.proofs.Common.{◌≡◌, ◌-◌, length, true}
use Rattle.ring_core.specs.Coeffs.{are_elems}
use Rattle.ring_core.proofs.Coefficients.{elems_take}
use Rattle.ring_core.proofs.PowerLaws.{elems_drop}
use Rattle.field_tower.proofs.places.is_residue.Goals as goal

pub are_zero-requires : goal.are_zero-requires
are_zero-requires g c =
    let r = g.F.Field.ops c.args.field.now in
    let elems : are_elems r c.args.a.0 ≡ true = cc in
    elems_take r (length c.args.a.0 - c.args.n) _ (elems_drop r (g.met.F.Field.laws c.args.field.now).ring c.args.n c.args.a.0 elems)
