use Rattle.std.proofs.Common.{nat_eq, ap, ◌∙◌}
use Rattle.std.specs.Map.{lookup}
use Rattle.std.specs.Cmp.Lexicographic.{pointwise}
use Rattle.statement_operands.specs.Names.{value_of}
use Rattle.statement_operands.proofs.Lookup.{looked_up}
use Rattle.statement_operands.proofs.names.Names.get.Goals as goal

pub returns : goal.returns
returns c =
    let es = c.self.inside.table.entries in
    let name = c.args.name.now.bytes in
    c.get.ensures.value
    ∙ ap (λ q. lookup (λ k. pointwise nat_eq q k.items) es) c.as_slice.ensures
    ∙ looked_up (λ k. k.items) name es
    ∙ ap (λ ns. value_of ns name) c.self.view_is
