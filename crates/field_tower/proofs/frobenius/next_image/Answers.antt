use Rattle.std.proofs.Common.{rules, ◌≡◌, ◌-◌, ◌*◌, ◌<◌, ◌≤◌, length, ◌∙◌, arith}
use Rattle.residue_field.specs.Base.{ops_of, size_of}
use Rattle.residue_field.specs.Top.{Top}
use Rattle.field_tower.specs.steps.Images.{frob_image}
use Rattle.field_tower.specs.steps.LetterPowers.{letter_image}
use Rattle.field_tower.proofs.TopValues.{shape_from}
use Rattle.field_tower.proofs.FrobMap.{image-read, images_count, image_first, image_second, part_elems, part_stored, image_mapped}
use Rattle.field_tower.proofs.frobenius.next_image.Goals as goal

pub returns-then-m-n : goal.returns-then-m-n
returns-then-m-n c =
    let base = c.args.base.now in
    let n = c.args.n in
    let modulus = c.args.modulus.now in
    let low : c.args.m < n = c.if-m-n.true in
    let positive : 0 < n = omega arith in
    let shape = shape_from base n modulus c.requires.degree c.requires.monic in
    c.unit.ensures ∙ image_first base n modulus positive shape c.args.m low

pub bounds-powers-m : goal.bounds-powers-m
bounds-powers-m c =
    let degree = c.requires.monic.degree in
    let len = c.requires.degree in
    let r = ops_of c.args.base.now in
    let modulus = c.args.modulus.now in
    let high : c.args.n ≤ c.args.m = c.if-m-n.false in
    let low : c.args.m < 2 * c.args.n = c.if-m-n-2.true in
    let count : length c.args.powers.now ≡ length modulus - 1 = images_count c.args.powers.now (length modulus - 1) (letter_image r (size_of c.args.base.now) modulus) c.requires.powers in
    omega arith

pub returns-then-m-n-2 : goal.returns-then-m-n-2
returns-then-m-n-2 c =
    let base = c.args.base.now in
    let n = c.args.n in
    let m = c.args.m in
    let modulus = c.args.modulus.now in
    let degree = c.requires.monic.degree in
    let len = c.requires.degree in
    let high : n ≤ m = c.if-m-n.false in
    let low : m < 2 * n = c.if-m-n-2.true in
    let positive : 0 < n = omega arith in
    let shape = shape_from base n modulus c.requires.degree c.requires.monic in
    image-read c.args.powers.now (length modulus - 1) (letter_image (ops_of base) (size_of base) modulus) c.requires.powers (m - n) (omega arith)
    ∙ image_second base n modulus positive shape len m high low

pub offset_bounds-images-m : goal.offset_bounds-images-m
offset_bounds-images-m c =
    let degree = c.requires.monic.degree in
    let len = c.requires.degree in
    let count : length c.args.images.now ≡ c.args.m = images_count c.args.images.now c.args.m (frob_image c.args.base.now c.args.n c.args.modulus.now) c.requires.before in
    search rules

pub bounds-images-m : goal.bounds-images-m
bounds-images-m c =
    let degree = c.requires.monic.degree in
    let len = c.requires.degree in
    let high : 2 * c.args.n ≤ c.args.m = c.if-m-n-2.false in
    let count : length c.args.images.now ≡ c.args.m = images_count c.args.images.now c.args.m (frob_image c.args.base.now c.args.n c.args.modulus.now) c.requires.before in
    omega arith

pub combination-requires-clause-coeffs : goal.combination-requires-clause-coeffs
combination-requires-clause-coeffs c =
    let n = c.args.n in
    let m = c.args.m in
    let images = c.args.images.now in
    let t : Top = record { base = c.args.base.now; n = n; modulus = c.args.modulus.now; is_top = c.requires.top } in
    let high : 2 * n ≤ m = c.if-m-n-2.false in
    let count : length images ≡ m = images_count images m (frob_image c.args.base.now n c.args.modulus.now) c.requires.before in
    let positive : 0 < n = c.requires.top.positive in
    part_elems t images m c.requires.before (m - n) (omega arith)

pub combination-requires-clause-images : goal.combination-requires-clause-images
combination-requires-clause-images c =
    let n = c.args.n in
    let m = c.args.m in
    let images = c.args.images.now in
    let t : Top = record { base = c.args.base.now; n = n; modulus = c.args.modulus.now; is_top = c.requires.top } in
    part_stored t images m c.requires.before

pub combination-requires-clause-row : goal.combination-requires-clause-row
combination-requires-clause-row c =
    let n = c.args.n in
    let m = c.args.m in
    let images = c.args.images.now in
    let t : Top = record { base = c.args.base.now; n = n; modulus = c.args.modulus.now; is_top = c.requires.top } in
    let high : 2 * n ≤ m = c.if-m-n-2.false in
    let count : length images ≡ m = images_count images m (frob_image c.args.base.now n c.args.modulus.now) c.requires.before in
    omega arith

pub returns : goal.returns
returns c =
    let n = c.args.n in
    let m = c.args.m in
    let images = c.args.images.now in
    let t : Top = record { base = c.args.base.now; n = n; modulus = c.args.modulus.now; is_top = c.requires.top } in
    let high : 2 * n ≤ m = c.if-m-n-2.false in
    c.combination.ensures ∙ image_mapped t images m c.requires.before (omega arith)
