use Rattle.std.proofs.Common.{ap, ◌∙◌}
use Rattle.motive_coords.specs.OverT.{base_parts}
use Rattle.motive_coords.proofs.over_base.over_t.Goals as goal

pub returns : goal.returns
returns g c =
    let field = c.args.field.now in
    record {
      motive = c.in_ok-list.list.items;
      is_motive = c.in_ok-list.ensures;
      is = c.in_ok-parts.ensures ∙ ap (base_parts (g.K.Field.ops field) (g.K.Base.Field.ops (g.K.FrobField.base_of field)) (g.K.FrobField.frob_ops field)) c.deref.ensures.value;
    }
