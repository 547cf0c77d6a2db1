use Rattle.std.proofs.Common.{ap, ◌∙◌, arith}
use Rattle.drinfeld_mod.specs.Module.{rank_of}
use Rattle.motive_coords.specs.steps.Expansion.{digits_value}
use Rattle.motive_coords.proofs.OfMotive.{motive_of}
use Rattle.motive_coords.proofs.coordinates.of_motive.Goals as goal

pub returns-clause-motive : goal.returns-clause-motive
returns-clause-motive g c =
    let field = c.args.field.now in
    let pos = c.requires.module.rank_pos in
    record {
      count = c.requires.count;
      elems = c.requires.elems;
      is =
          c.in_ok-sum.ensures.value
          ∙ ap (λ t. digits_value (g.K.Field.ops field) (g.K.FrobField.frob_ops field).frob t c.args.list.now 0 c.length_bound.result) c.in_ok-letter.ensures.value
          ∙ motive_of _ _ _ _ (g.met.K.Field.laws field) (g.met.K.FrobField.frob_laws field) (c.args.phi.now, c.requires.module.canonical) (rank_of c.args.phi.now) (omega (arith, pos)) pos
          c.args.list.now c.requires.elems c.requires.count c.length_bound.result c.length_bound.ensures;
    }
