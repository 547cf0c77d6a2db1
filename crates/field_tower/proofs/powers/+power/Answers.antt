use Rattle.std.proofs.Common.{◌≡◌, ◌%◌, sym, ap, ap₂, subst, ◌∙◌, arith}
use Rattle.ring_core.specs.Ring.{IsElem}
use Rattle.ring_core.specs.Powers.{power_of}
use Rattle.ring_core.proofs.PowerLaws.{power_in, power-even, power-odd}
use Rattle.residue_field.specs.Base.{ops_of}
use Rattle.residue_field.proofs.BaseLaws.{base_ring, base_commutes}
use Rattle.field_tower.specs.steps.Places.{stored_ops}
use Rattle.field_tower.proofs.Stored.{stored_ring}
use Rattle.field_tower.proofs.powers.+power.Goals as goal

pub returns-then-k-eq0-clause-value : goal.returns-then-k-eq0-clause-value
returns-then-k-eq0-clause-value t c =
    let modulus = c.args.modulus.now in
    c.one.ensures.value modulus ∙ ap (power_of (stored_ops (ops_of c.args.base.now) modulus) c.args.a) (sym c.if-k-eq0.true)

pub returns-then-k-eq1-clause-value : goal.returns-then-k-eq1-clause-value
returns-then-k-eq1-clause-value t c =
    let base = c.args.base.now in
    let ops = stored_ops (ops_of base) c.args.modulus.now in
    let ring = stored_ring (ops_of base) (base_ring base) c.args.modulus.now c.requires.monic (base_commutes base) in
    sym (ring.one_mul c.args.a c.requires.elem) ∙ ap (power_of ops c.args.a) (sym c.if-k-eq1.true)

pub returns-then-k-eq0-2-clause-value : goal.returns-then-k-eq0-2-clause-value
returns-then-k-eq0-2-clause-value t c =
    let base = c.args.base.now in
    let ops = stored_ops (ops_of base) c.args.modulus.now in
    let ring = stored_ring (ops_of base) (base_ring base) c.args.modulus.now c.requires.monic (base_commutes base) in
    c.mul-square.ensures ∙ ap₂ ops.mul c.power-half.ensures.value c.power-half.ensures.value
    ∙ sym (power-even ops ring c.args.a c.args.k c.requires.elem c.if-k-eq0-2.true)

pub returns-then-k-eq0-2-clause-elem : goal.returns-then-k-eq0-2-clause-elem
returns-then-k-eq0-2-clause-elem t c =
    let base = c.args.base.now in
    let ops = stored_ops (ops_of base) c.args.modulus.now in
    let ring = stored_ring (ops_of base) (base_ring base) c.args.modulus.now c.requires.monic (base_commutes base) in
    subst (IsElem ops) (sym (returns-then-k-eq0-2-clause-value t c)) (power_in ops ring c.args.a c.args.k c.requires.elem)

pub mul-requires-clause-left : goal.mul-requires-clause-left
mul-requires-clause-left t c =
    let base = c.args.base.now in
    let ops = stored_ops (ops_of base) c.args.modulus.now in
    let ring = stored_ring (ops_of base) (base_ring base) c.args.modulus.now c.requires.monic (base_commutes base) in
    subst (IsElem ops) (sym c.mul-square.ensures) (ring.closed.mul_in _ _ c.power-half.ensures.elem c.power-half.ensures.elem)

pub returns-else-k-eq0-2-clause-value : goal.returns-else-k-eq0-2-clause-value
returns-else-k-eq0-2-clause-value t c =
    let base = c.args.base.now in
    let ops = stored_ops (ops_of base) c.args.modulus.now in
    let ring = stored_ring (ops_of base) (base_ring base) c.args.modulus.now c.requires.monic (base_commutes base) in
    let odd : c.args.k % 2 ≡ 1 = omega arith in
    c.mul.ensures
    ∙ ap (λ x. ops.mul x c.args.a) (c.mul-square.ensures ∙ ap₂ ops.mul c.power-half.ensures.value c.power-half.ensures.value)
    ∙ sym (power-odd ops ring c.args.a c.args.k c.requires.elem odd)

pub returns-else-k-eq0-2-clause-elem : goal.returns-else-k-eq0-2-clause-elem
returns-else-k-eq0-2-clause-elem t c =
    let base = c.args.base.now in
    let ops = stored_ops (ops_of base) c.args.modulus.now in
    let ring = stored_ring (ops_of base) (base_ring base) c.args.modulus.now c.requires.monic (base_commutes base) in
    subst (IsElem ops) (sym (returns-else-k-eq0-2-clause-value t c)) (power_in ops ring c.args.a c.args.k c.requires.elem)
