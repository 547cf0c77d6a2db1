use Rattle.std.proofs.Common.{◌≡◌, ◌-◌, ◌<◌, ◌≤◌, suc, length, sym, ap, ap₂, subst, ◌∙◌, arith}
use Rattle.ring_core.specs.Ring.{IsElem}
use Rattle.ring_core.specs.Powers.{power_of}
use Rattle.residue_field.specs.Base.{ops_of, size_of}
use Rattle.residue_field.proofs.BaseLaws.{base_ring, base_commutes}
use Rattle.field_tower.specs.steps.Places.{stored_ops}
use Rattle.field_tower.specs.steps.LetterPowers.{letter_image}
use Rattle.field_tower.proofs.FrobMap.{image-read, images_count}
use Rattle.field_tower.proofs.LetterPowers.{letter-power_in, letter-image_in, image-after}
use Rattle.field_tower.proofs.powers.next_image.Goals as goal

pub power-requires-clause-elem : goal.power-requires-clause-elem
power-requires-clause-elem c =
    let base = c.args.base.now in
    let modulus = c.args.modulus.now in
    subst (IsElem (stored_ops (ops_of base) modulus)) (sym c.unit-letter.ensures)
    (letter-power_in (ops_of base) (base_ring base) (base_commutes base) modulus c.requires.monic c.args.j)

pub returns-then-j-lt2 : goal.returns-then-j-lt2
returns-then-j-lt2 c =
    c.power.ensures.value ∙ ap₂ (power_of (stored_ops (ops_of c.args.base.now) c.args.modulus.now)) c.unit-letter.ensures c.q.ensures.value

pub bounds-images-1 : goal.bounds-images-1
bounds-images-1 c =
    let base = c.args.base.now in
    let high : 2 ≤ c.args.j = c.if-j-lt2.false in
    let count : length c.args.images.now ≡ c.args.j = images_count c.args.images.now c.args.j (letter_image (ops_of base) (size_of base) c.args.modulus.now) c.requires.before in
    omega arith

pub bounds-images-j : goal.bounds-images-j
bounds-images-j c =
    let base = c.args.base.now in
    let high : 2 ≤ c.args.j = c.if-j-lt2.false in
    let count : length c.args.images.now ≡ c.args.j = images_count c.args.images.now c.args.j (letter_image (ops_of base) (size_of base) c.args.modulus.now) c.requires.before in
    omega arith

pub mul-requires-clause-left : goal.mul-requires-clause-left
mul-requires-clause-left c =
    let base = c.args.base.now in
    let r = ops_of base in
    let modulus = c.args.modulus.now in
    let q = size_of base in
    let high : 2 ≤ c.args.j = c.if-j-lt2.false in
    subst (IsElem (stored_ops r modulus)) (sym (image-read c.args.images.now c.args.j (letter_image r q modulus) c.requires.before 1 (omega arith)))
    (letter-image_in r (base_ring base) (base_commutes base) modulus c.requires.monic q 1)

pub mul-requires-clause-right : goal.mul-requires-clause-right
mul-requires-clause-right c =
    let base = c.args.base.now in
    let r = ops_of base in
    let modulus = c.args.modulus.now in
    let q = size_of base in
    let j = c.args.j in
    let high : 2 ≤ j = c.if-j-lt2.false in
    subst (IsElem (stored_ops r modulus)) (sym (image-read c.args.images.now j (letter_image r q modulus) c.requires.before (j - 1) (omega arith)))
    (letter-image_in r (base_ring base) (base_commutes base) modulus c.requires.monic q (j - 1))

pub returns : goal.returns
returns c =
    let base = c.args.base.now in
    let r = ops_of base in
    let modulus = c.args.modulus.now in
    let q = size_of base in
    let j = c.args.j in
    let images = c.args.images.now in
    let high : 2 ≤ j = c.if-j-lt2.false in
    let next : suc (j - 1) ≡ j = omega arith in
    let within : j < length modulus - 1 = c.requires.place in
    c.mul.ensures
    ∙ ap₂ (stored_ops r modulus).mul
    (image-read images j (letter_image r q modulus) c.requires.before 1 (omega arith))
    (image-read images j (letter_image r q modulus) c.requires.before (j - 1) (omega arith))
    ∙ image-after r (base_ring base) (base_commutes base) modulus c.requires.monic q (j - 1) (omega arith)
    ∙ ap (letter_image r q modulus) next
