use Rattle.std.proofs.Common.{◌<◌, sym, ap, subst, ◌∙◌, rules, arith}
use Rattle.residue_field.specs.Base.{ops_of}
use Rattle.residue_field.proofs.BaseLaws.{base_ring}
use Rattle.field_tower.proofs.BaseValues.{below_size}
use Rattle.field_tower.proofs.KindValues.{modular_below, modular-add, sums_are, binary-add, sum_fits, tabled-add}
use Rattle.field_tower.specs.declared.tables.SumKind.TheVariants as sum
use Rattle.field_tower.proofs.base.BaseFieldField.add.Goals as goal

pub less_once-requires : goal.less_once-requires
less_once-requires c =
    let i = c.self.inside in
    let n = c.args.self.now in
    let one = sums_are i n c.self.view_is sum.Modular c.in-Modular.is in
    let left : c.args.a < i.p = modular_below i n c.self.view_is one c.args.a c.requires.left in
    let right : c.args.b < i.p = modular_below i n c.self.view_is one c.args.b c.requires.right in
    omega arith

pub index-requires : goal.index-requires
index-requires c =
    let i = c.self.inside in
    let n = c.args.self.now in
    let fits = sum_fits i n c.self.view_is c.in-Tabled.is c.args.a c.args.b c.requires.left c.requires.right in
    search (rules, fits)

pub sum-requires-clause-left : goal.sum-requires-clause-left
sum-requires-clause-left c = subst (λ m. c.args.a < m) (sym c.codes.ensures.count) (below_size c.args.self.now c.args.a c.requires.left)

pub sum-requires-clause-right : goal.sum-requires-clause-right
sum-requires-clause-right c = subst (λ m. c.args.b < m) (sym c.codes.ensures.count) (below_size c.args.self.now c.args.b c.requires.right)

pub returns-in-Modular-clause-value : goal.returns-in-Modular-clause-value
returns-in-Modular-clause-value c =
    let i = c.self.inside in
    let n = c.args.self.now in
    let one = sums_are i n c.self.view_is sum.Modular c.in-Modular.is in
    c.less_once.ensures ∙ modular-add i n c.self.view_is one c.args.a c.args.b c.requires.left c.requires.right

pub returns-in-Modular-clause-elem : goal.returns-in-Modular-clause-elem
returns-in-Modular-clause-elem c =
    ap (ops_of c.args.self.now).is_elem (returns-in-Modular-clause-value c) ∙ (base_ring c.args.self.now).closed.add_in _ _ c.requires.left c.requires.right

pub returns-in-Binary-clause-value : goal.returns-in-Binary-clause-value
returns-in-Binary-clause-value c =
    let i = c.self.inside in
    let n = c.args.self.now in
    binary-add i n c.self.view_is (sums_are i n c.self.view_is sum.Binary c.in-Binary.is) c.args.a c.args.b c.requires.left c.requires.right

pub returns-in-Binary-clause-elem : goal.returns-in-Binary-clause-elem
returns-in-Binary-clause-elem c =
    ap (ops_of c.args.self.now).is_elem (returns-in-Binary-clause-value c) ∙ (base_ring c.args.self.now).closed.add_in _ _ c.requires.left c.requires.right

pub returns-in-Tabled-clause-value : goal.returns-in-Tabled-clause-value
returns-in-Tabled-clause-value c =
    let i = c.self.inside in
    let n = c.args.self.now in
    tabled-add i n c.self.view_is c.in-Tabled.is c.args.a c.args.b _ c.requires.left c.requires.right c.index.ensures

pub returns-in-Tabled-clause-elem : goal.returns-in-Tabled-clause-elem
returns-in-Tabled-clause-elem c =
    ap (ops_of c.args.self.now).is_elem (returns-in-Tabled-clause-value c) ∙ (base_ring c.args.self.now).closed.add_in _ _ c.requires.left c.requires.right

pub returns-in-Digital-clause-elem : goal.returns-in-Digital-clause-elem
returns-in-Digital-clause-elem c =
    ap (ops_of c.args.self.now).is_elem (c.sum.ensures ∙ ap (λ r. r.add c.args.a c.args.b) c.codes.ensures.ops) ∙ (base_ring c.args.self.now).closed.add_in _ _ c.requires.left c.requires.right
