use Rattle.std.proofs.Common.{◌<◌, sym, ap, subst, ◌∙◌, rules, arith}
use Rattle.residue_field.specs.Base.{ops_of}
use Rattle.residue_field.proofs.BaseLaws.{base_ring}
use Rattle.residue_field.proofs.Listed.{listed_large}
use Rattle.field_tower.proofs.BaseValues.{below_size}
use Rattle.field_tower.proofs.KindValues.{modular_below, modular-neg, sums_are, binary-neg, negative_fits, tabled-neg}
use Rattle.field_tower.specs.declared.tables.SumKind.TheVariants as sum
use Rattle.field_tower.proofs.base.BaseFieldField.neg.Goals as goal

pub overflow_sub-self-inside : goal.overflow_sub-self-inside
overflow_sub-self-inside c =
    let i = c.self.inside in
    let n = c.args.self.now in
    let one = sums_are i n c.self.view_is sum.Modular c.in-Modular.is in
    let low : c.args.a < i.p = modular_below i n c.self.view_is one c.args.a c.requires in
    omega arith

pub less_once-requires : goal.less_once-requires
less_once-requires c =
    let i = c.self.inside in
    let n = c.args.self.now in
    let large : 1 < i.p = listed_large i.p i.is_base.listed in
    omega arith

pub index-requires : goal.index-requires
index-requires c =
    let i = c.self.inside in
    let n = c.args.self.now in
    let fits = negative_fits i n c.self.view_is c.in-Tabled.is c.args.a c.requires in
    search (rules, fits)

pub negative-requires : goal.negative-requires
negative-requires c = subst (λ m. c.args.a < m) (sym c.codes.ensures.count) (below_size c.args.self.now c.args.a c.requires)

pub returns-in-Modular-clause-value : goal.returns-in-Modular-clause-value
returns-in-Modular-clause-value c =
    let i = c.self.inside in
    let n = c.args.self.now in
    let one = sums_are i n c.self.view_is sum.Modular c.in-Modular.is in
    c.less_once.ensures ∙ modular-neg i n c.self.view_is one c.args.a c.requires

pub returns-in-Modular-clause-elem : goal.returns-in-Modular-clause-elem
returns-in-Modular-clause-elem c =
    ap (ops_of c.args.self.now).is_elem (returns-in-Modular-clause-value c) ∙ (base_ring c.args.self.now).closed.neg_in _ c.requires

pub returns-in-Binary-clause-value : goal.returns-in-Binary-clause-value
returns-in-Binary-clause-value c =
    let i = c.self.inside in
    let n = c.args.self.now in
    binary-neg i n c.self.view_is (sums_are i n c.self.view_is sum.Binary c.in-Binary.is) c.args.a c.requires

pub returns-in-Tabled-clause-value : goal.returns-in-Tabled-clause-value
returns-in-Tabled-clause-value c =
    let i = c.self.inside in
    let n = c.args.self.now in
    tabled-neg i n c.self.view_is c.in-Tabled.is c.args.a _ c.requires c.index.ensures

pub returns-in-Tabled-clause-elem : goal.returns-in-Tabled-clause-elem
returns-in-Tabled-clause-elem c =
    ap (ops_of c.args.self.now).is_elem (returns-in-Tabled-clause-value c) ∙ (base_ring c.args.self.now).closed.neg_in _ c.requires

pub returns-in-Digital-clause-elem : goal.returns-in-Digital-clause-elem
returns-in-Digital-clause-elem c =
    ap (ops_of c.args.self.now).is_elem (c.negative.ensures ∙ ap (λ r. r.neg c.args.a) c.codes.ensures.ops) ∙ (base_ring c.args.self.now).closed.neg_in _ c.requires
