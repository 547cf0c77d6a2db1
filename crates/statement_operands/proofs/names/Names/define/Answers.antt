use Rattle.std.proofs.Common.{◌≡◌, None, [], ◌∷◌, ◌++◌, map, ap, ◌∙◌}
use Rattle.std.specs.Prelude.{nat_eq}
use Rattle.std.specs.Map.{lookup}
use Rattle.std.specs.Cmp.Lexicographic.{pointwise}
use Rattle.std.proofs.lemmas.List.{map-append}
use Rattle.indexmap.proofs.CallerLemmas.{insert_entry-new}
use Rattle.statement_operands.specs.Names.{value_of}
use Rattle.statement_operands.proofs.Lookup.{looked_up}
use Rattle.statement_operands.proofs.names.Names.define.Goals as goal

pub returns-clause-ok : goal.returns-clause-ok
returns-clause-ok c =
    let table = c.self.inside.table in
    let name = c.args.name in
    let none : lookup (λ k. pointwise nat_eq name.items k.items) table.entries ≡ None =
    looked_up (λ k. k.items) name.items table.entries ∙ ap (λ ns. value_of ns name.items) c.self.view_is ∙ c.requires in
    ap (map (λ e. (e.0.items, e.1))) (c.in_ok-insert.ensures.entries ∙ insert_entry-new (λ a b. pointwise nat_eq a.items b.items) table name c.args.value none)
    ∙ map-append (λ e. (e.0.items, e.1)) table.entries ((name, c.args.value) ∷ [])
    ∙ ap (λ ns. ns ++ (name.items, c.args.value) ∷ []) c.self.view_is
