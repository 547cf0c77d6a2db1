use Rattle.std.proofs.Common.{◌≡◌, ◌/◌, ◌%◌, sym, ap, ap₂, ◌∙◌, arith}
use Rattle.residue_field.specs.Base.{ops_of}
use Rattle.residue_field.specs.Top.{ops_of_top, inverse_of_top, frob_of_top}
use Rattle.residue_field.proofs.TopLaws.{top_field}
use Rattle.residue_field.proofs.TopFrob.{top_frob_field}
use Rattle.field_tower.specs.steps.Norm.{conjugate_product}
use Rattle.field_tower.proofs.Norm.{conjugates_even, conjugates_odd}
use Rattle.field_tower.proofs.tower.Tower.+conjugates.Goals as goal

pub returns-then-k-eq0-clause-value : goal.returns-then-k-eq0-clause-value
returns-then-k-eq0-clause-value t c =
    let k = c.args.self.now in
    c.one.ensures.value ∙ ap (conjugate_product (ops_of_top k) (frob_of_top k) c.args.a) (sym c.if-k-eq0.true)

pub returns-then-k-eq1-clause-value : goal.returns-then-k-eq1-clause-value
returns-then-k-eq1-clause-value t c =
    let k = c.args.self.now in
    let f = frob_of_top k in
    c.frob.ensures.value ∙ ap (λ x. f.frob x 1) (sym ((top_field k).ring.one_mul c.args.a c.requires))
    ∙ ap (conjugate_product (ops_of_top k) f c.args.a) (sym c.if-k-eq1.true)

pub returns-then-k-eq0-2-clause-value : goal.returns-then-k-eq0-2-clause-value
returns-then-k-eq0-2-clause-value t c =
    let k = c.args.self.now in
    let f = frob_of_top k in
    c.mul-double.ensures.value
    ∙ ap₂ (ops_of_top k).mul c.conjugates-half.ensures.value (c.frob-raised.ensures.value ∙ ap (λ x. f.frob x (c.args.k / 2)) c.conjugates-half.ensures.value)
    ∙ sym (conjugates_even (ops_of_top k) (inverse_of_top k) (ops_of k.base) f (top_field k) (top_frob_field k) c.args.a c.requires c.args.k c.if-k-eq0-2.true)

pub returns-else-k-eq0-2-clause-value : goal.returns-else-k-eq0-2-clause-value
returns-else-k-eq0-2-clause-value t c =
    let k = c.args.self.now in
    let f = frob_of_top k in
    let odd : c.args.k % 2 ≡ 1 = omega arith in
    c.frob-else-k-eq0-2.ensures.value
    ∙ ap (λ x. f.frob x 1)
    (c.mul.ensures.value
    ∙ ap (λ x. (ops_of_top k).mul x c.args.a)
    (c.mul-double.ensures.value
    ∙ ap₂ (ops_of_top k).mul c.conjugates-half.ensures.value (c.frob-raised.ensures.value ∙ ap (λ x. f.frob x (c.args.k / 2)) c.conjugates-half.ensures.value)))
    ∙ sym (conjugates_odd (ops_of_top k) (inverse_of_top k) (ops_of k.base) f (top_field k) (top_frob_field k) c.args.a c.requires c.args.k odd)
