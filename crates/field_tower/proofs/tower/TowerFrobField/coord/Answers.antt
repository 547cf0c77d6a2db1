use Rattle.std.proofs.Common.{◌-◌, slice_index_or, subst}
use Rattle.ring_core.specs.Ring.{IsElem}
use Rattle.residue_field.specs.Base.{ops_of}
use Rattle.residue_field.proofs.TopFrob.{top_frob_field}
use Rattle.field_tower.proofs.BaseValues.{base-zero}
use Rattle.field_tower.proofs.tower.TowerFrobField.coord.Goals as goal

pub returns-clause-elem : goal.returns-clause-elem
returns-clause-elem c =
    let t = c.args.self.now in
    subst (λ d. IsElem (ops_of t.base) (slice_index_or c.args.c.0 c.args.j d)) (base-zero t.base.p (t.base.s - 1) t.base.modulus)
    ((top_frob_field t).coord_in c.args.c c.args.j c.requires.elem c.requires.place)
