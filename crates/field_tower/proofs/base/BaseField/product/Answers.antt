use Rattle.std.proofs.Common.{◌<◌, sym, ap, subst, ◌∙◌, rules}
use Rattle.residue_field.specs.Base.{ops_of}
use Rattle.residue_field.proofs.BaseLaws.{base_ring}
use Rattle.field_tower.proofs.BaseValues.{below_size}
use Rattle.field_tower.proofs.KindValues.{modular-mul, products_are, log_fits, power_fits, logged-mul}
use Rattle.field_tower.specs.declared.logs.ProductKind.TheVariants as product
use Rattle.field_tower.proofs.base.BaseField.product.Goals as goal

pub index-requires : goal.index-requires
index-requires c =
    let i = c.self.inside in
    let n = c.args.self.now in
    let fits = log_fits i n c.self.view_is c.in-Logged.is c.args.a c.requires.left in
    search (rules, fits)

pub index-requires-in-Logged : goal.index-requires-in-Logged
index-requires-in-Logged c =
    let i = c.self.inside in
    let n = c.args.self.now in
    let fits = log_fits i n c.self.view_is c.in-Logged.is c.args.b c.requires.right in
    search (rules, fits)

pub index-requires-in-Logged-2 : goal.index-requires-in-Logged-2
index-requires-in-Logged-2 c =
    let i = c.self.inside in
    let n = c.args.self.now in
    let fits = power_fits i n c.self.view_is c.in-Logged.is c.args.a c.args.b c.index.result.now c.index-in-Logged.result.now c.requires.left c.requires.right c.index.ensures c.index-in-Logged.ensures in
    search (rules, fits)

pub product-requires-clause-left : goal.product-requires-clause-left
product-requires-clause-left c = subst (λ m. c.args.a < m) (sym c.codes.ensures.count) (below_size c.args.self.now c.args.a c.requires.left)

pub product-requires-clause-right : goal.product-requires-clause-right
product-requires-clause-right c = subst (λ m. c.args.b < m) (sym c.codes.ensures.count) (below_size c.args.self.now c.args.b c.requires.right)

pub returns-in-Modular-clause-value : goal.returns-in-Modular-clause-value
returns-in-Modular-clause-value c =
    let i = c.self.inside in
    let n = c.args.self.now in
    let one = products_are i n c.self.view_is product.Modular c.in-Modular.is in
    c.remainder.ensures ∙ modular-mul i n c.self.view_is one c.args.a c.args.b c.requires.left c.requires.right

pub returns-in-Modular-clause-elem : goal.returns-in-Modular-clause-elem
returns-in-Modular-clause-elem c =
    ap (ops_of c.args.self.now).is_elem (returns-in-Modular-clause-value c) ∙ (base_ring c.args.self.now).closed.mul_in _ _ c.requires.left c.requires.right

pub returns-in-Logged-clause-value : goal.returns-in-Logged-clause-value
returns-in-Logged-clause-value c =
    let i = c.self.inside in
    let n = c.args.self.now in
    logged-mul i n c.self.view_is c.in-Logged.is c.args.a c.args.b c.index.result.now c.index-in-Logged.result.now _ c.requires.left c.requires.right c.index.ensures c.index-in-Logged.ensures c.index-in-Logged-2.ensures

pub returns-in-Logged-clause-elem : goal.returns-in-Logged-clause-elem
returns-in-Logged-clause-elem c =
    ap (ops_of c.args.self.now).is_elem (returns-in-Logged-clause-value c) ∙ (base_ring c.args.self.now).closed.mul_in _ _ c.requires.left c.requires.right

pub returns-in-Digital-clause-elem : goal.returns-in-Digital-clause-elem
returns-in-Digital-clause-elem c =
    ap (ops_of c.args.self.now).is_elem (c.product.ensures ∙ ap (λ r. r.mul c.args.a c.args.b) c.codes.ensures.ops) ∙ (base_ring c.args.self.now).closed.mul_in _ _ c.requires.left c.requires.right
