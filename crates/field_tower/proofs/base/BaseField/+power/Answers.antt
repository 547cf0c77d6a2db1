use Rattle.std.proofs.Common.{◌≡◌, ◌-◌, ◌%◌, sym, ap, ap₂, subst, ◌∙◌, arith}
use Rattle.ring_core.specs.Ring.{IsElem}
use Rattle.ring_core.specs.Powers.{power_of}
use Rattle.ring_core.proofs.PowerLaws.{power-even, power-odd}
use Rattle.residue_field.specs.Base.{ops_of}
use Rattle.residue_field.proofs.BaseLaws.{base_ring}
use Rattle.field_tower.proofs.BaseValues.{base-one}
use Rattle.field_tower.proofs.base.BaseField.+power.Goals as goal

pub returns-then-k-eq0-clause-value : goal.returns-then-k-eq0-clause-value
returns-then-k-eq0-clause-value t c =
    let k = c.args.self.now in
    sym (base-one k.p (k.s - 1) k.modulus) ∙ ap (power_of (ops_of k) c.args.a) (sym c.if-k-eq0.true)

pub returns-then-k-eq0-clause-elem : goal.returns-then-k-eq0-clause-elem
returns-then-k-eq0-clause-elem t c =
    let k = c.args.self.now in
    subst (IsElem (ops_of k)) (base-one k.p (k.s - 1) k.modulus) (base_ring k).closed.one_in

pub returns-then-k-eq0-2-clause-value : goal.returns-then-k-eq0-2-clause-value
returns-then-k-eq0-2-clause-value t c =
    let k = c.args.self.now in
    c.product-square.ensures.value ∙ ap₂ (ops_of k).mul c.power-half.ensures.value c.power-half.ensures.value
    ∙ sym (power-even (ops_of k) (base_ring k) c.args.a c.args.k c.requires c.if-k-eq0-2.true)

pub returns-else-k-eq0-2-clause-value : goal.returns-else-k-eq0-2-clause-value
returns-else-k-eq0-2-clause-value t c =
    let k = c.args.self.now in
    let odd : c.args.k % 2 ≡ 1 = omega arith in
    c.product.ensures.value
    ∙ ap (λ x. (ops_of k).mul x c.args.a) (c.product-square.ensures.value ∙ ap₂ (ops_of k).mul c.power-half.ensures.value c.power-half.ensures.value)
    ∙ sym (power-odd (ops_of k) (base_ring k) c.args.a c.args.k c.requires odd)

pub returns-then-k-eq1-clause-value : goal.returns-then-k-eq1-clause-value
returns-then-k-eq1-clause-value t c =
    let k = c.args.self.now in
    sym ((base_ring k).one_mul c.args.a c.requires) ∙ ap (power_of (ops_of k) c.args.a) (sym c.if-k-eq1.true)
