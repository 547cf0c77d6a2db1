use Rattle.std.proofs.Common.{◌≡◌}
use Rattle.drinfeld_mod.specs.Module.{IsModule}
use Rattle.frobenius_rel.proofs.PowerRows.{IsSearch}
use Rattle.frobenius_rel.proofs.search.first_relation.Given as goal

abbrev pub invariant-loop : goal.invariant-loop
invariant-loop g l =
    let base = g.K.FrobField.base_of l.field in
    record {
      width : l.rows.width ≡ l.width;
      search : (m : IsModule (g.K.Field.ops l.field) l.phi) ×
          IsSearch (g.K.Field.ops l.field) (g.K.Field.inv_of l.field) (g.K.Base.Field.ops base) (g.K.Base.Field.inv_of base) (g.K.FrobField.frob_ops l.field)
          (g.met.K.Field.laws l.field) (g.met.K.Base.Field.laws base) (g.met.K.FrobField.frob_laws l.field) l.phi m l.counter l.rows.rows l.power.items;
    }
