use Rattle.std.proofs.Common.{◌<◌, ◌-◌, length, sym, ap, ◌∙◌, arith, rules}
use Rattle.ring_core.specs.Powers.{power_of}
use Rattle.residue_field.specs.Base.{ops_of, inverse_of}
use Rattle.residue_field.proofs.BaseLaws.{base_field}
use Rattle.field_tower.proofs.BaseValues.{base-one, inverse_some}
use Rattle.field_tower.proofs.KindValues.{count, two_codes, code_in, log_fits, log_low, powers_long}
use Rattle.field_tower.proofs.Inverses.{inverse_from}
use Rattle.field_tower.proofs.base.BaseField.inverse.Goals as goal

pub overflow_sub-self-inside : goal.overflow_sub-self-inside
overflow_sub-self-inside c =
    let large = two_codes c.self.inside c.args.self.now c.self.view_is in
    omega (arith, large)

pub index-requires : goal.index-requires
index-requires c =
    let fits = log_fits c.self.inside c.args.self.now c.self.view_is c.in-Logged.is c.args.a c.requires.elem in
    search (rules, fits)

pub overflow_sub-self-inside-in-Logged : goal.overflow_sub-self-inside-in-Logged
overflow_sub-self-inside-in-Logged c =
    let some : 0 < c.args.a = omega (arith, c.requires.nonzero) in
    let low = log_low c.self.inside c.args.self.now c.self.view_is c.in-Logged.is c.args.a c.index.result.now c.requires.elem some c.index.ensures in
    omega (arith, low)

pub index-inverse-requires : goal.index-inverse-requires
index-inverse-requires c =
    let i = c.self.inside in
    let n = c.args.self.now in
    let large = two_codes i n c.self.view_is in
    let long = powers_long i n c.self.view_is c.in-Logged.is in
    let fits : i.q - 1 - c.index.result.now < length i.tables.products.powers.items = omega (arith, large, long) in
    search (rules, fits)

pub product-requires-clause-right : goal.product-requires-clause-right
product-requires-clause-right c = code_in c.self.inside c.args.self.now c.self.view_is c.index-inverse.result.now c.if-inverse-self.true

pub returns-then-product-eq1-clause-value : goal.returns-then-product-eq1-clause-value
returns-then-product-eq1-clause-value c =
    let n = c.args.self.now in
    inverse_from (ops_of n) (inverse_of n) (base_field n) c.args.a c.index-inverse.result.now c.requires.elem
    (code_in c.self.inside n c.self.view_is c.index-inverse.result.now c.if-inverse-self.true)
    (sym c.product.ensures.value ∙ c.if-product-eq1.true ∙ sym (base-one n.p (n.s - 1) n.modulus))

pub returns-then-product-eq1-clause-elem : goal.returns-then-product-eq1-clause-elem
returns-then-product-eq1-clause-elem c = code_in c.self.inside c.args.self.now c.self.view_is c.index-inverse.result.now c.if-inverse-self.true

pub overflow_sub-self-inside-2 : goal.overflow_sub-self-inside-2
overflow_sub-self-inside-2 c = two_codes c.self.inside c.args.self.now c.self.view_is

pub returns-clause-value : goal.returns-clause-value
returns-clause-value c =
    let n = c.args.self.now in
    inverse_some n c.args.a c.power.result c.requires.nonzero (c.power.ensures.value ∙ ap (λ m. power_of (ops_of n) c.args.a (m - 2)) (count c.self.inside n c.self.view_is))
