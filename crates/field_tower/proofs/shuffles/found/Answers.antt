use Rattle.std.proofs.Common.{◌≡◌, ◌/◌, ◌%◌, ◌<◌, bit_and, bit_xor, slice_index_or, ap, ap₂, ◌∙◌, arith}
use Rattle.std.proofs.lemmas.Nat.{and_mask}
use lib.Lanes.{zip2}
use Rattle.field_tower.proofs.LaneValues.{down, lane-zip, lane-splat}
use Rattle.field_tower.specs.steps.Lanes.{sixteen}
use Rattle.field_tower.proofs.shuffles.found.Goals as goal

pub picked-requires-clause-small : goal.picked-requires-clause-small
picked-requires-clause-small c = λ j l.
    let x = slice_index_or c.args.x j 0 in
    let here : slice_index_or c.low_bits.result j 0 ≡ x % 16 = ap (λ v. slice_index_or v j 0) (c.low_bits.ensures ∙ ap (λ v. zip2 bit_and v (sixteen 15)) c.bytes-x.ensures) ∙ lane-splat bit_and c.args.x c.requires.len 15 j l ∙ and_mask x 4 in
    omega arith

pub picked-requires-2-clause-small : goal.picked-requires-2-clause-small
picked-requires-2-clause-small c = λ j l.
    let x = slice_index_or c.args.x j 0 in
    let small : x < 256 = c.requires.small j l in
    let here : slice_index_or c.high_bits.result j 0 ≡ x / 16 = ap (λ v. slice_index_or v j 0) (c.high_bits.ensures ∙ ap (λ v. zip2 down v (sixteen 4)) c.bytes-x.ensures) ∙ lane-splat down c.args.x c.requires.len 4 j l in
    omega arith

pub returns-clause-lanes : goal.returns-clause-lanes
returns-clause-lanes c = λ j l.
    let x = slice_index_or c.args.x j 0 in
    let low : slice_index_or c.low_bits.result j 0 ≡ x % 16 = ap (λ v. slice_index_or v j 0) (c.low_bits.ensures ∙ ap (λ v. zip2 bit_and v (sixteen 15)) c.bytes-x.ensures) ∙ lane-splat bit_and c.args.x c.requires.len 15 j l ∙ and_mask x 4 in
    let high : slice_index_or c.high_bits.result j 0 ≡ x / 16 = ap (λ v. slice_index_or v j 0) (c.high_bits.ensures ∙ ap (λ v. zip2 down v (sixteen 4)) c.bytes-x.ensures) ∙ lane-splat down c.args.x c.requires.len 4 j l in
    ap (λ v. slice_index_or v j 0) (c.codes.ensures ∙ c.sums.ensures)
    ∙ lane-zip bit_xor c.picked.result c.picked.ensures.len c.picked-2.result c.picked-2.ensures.len j l
    ∙ ap₂ bit_xor (c.picked.ensures.lanes j l ∙ ap (λ i. slice_index_or c.args.low i 0) low) (c.picked-2.ensures.lanes j l ∙ ap (λ i. slice_index_or c.args.high i 0) high)
