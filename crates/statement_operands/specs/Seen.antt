-- What contracts see of the demands of the code.
use Rattle.std.specs.Prelude.{option_map}
use Rattle.statement_operands.specs.declared.demands.Demands.{Demands as Kept}
use Rattle.statement_operands.specs.Demands.{Demands}

abbrev pub seen : Kept → Demands
seen d = record {
  field = d.field;
  phi = option_map (λ m. m.now) d.phi;
  psi = option_map (λ m. m.now) d.psi;
  u = option_map (λ m. m.now) d.u;
  v = option_map (λ m. m.now) d.v;
  shown = option_map (λ m. m.now) d.shown;
  list = option_map (λ m. m.now) d.list;
  gives = option_map (λ m. m.now) d.gives;
}
