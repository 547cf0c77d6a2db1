use Rattle.std.proofs.Common.{◌≡◌, ◌+◌, ◌*◌, inr, bit_xor, slice_index_or, ap, ap₂, ◌∙◌, arith, refl}
use Rattle.residue_field.specs.Base.{ops_of}
use Rattle.field_tower.proofs.RowValues.{member_below}
use Rattle.field_tower.proofs.ShuffleValues.{looked_up-is, written_on}
use Rattle.field_tower.proofs.shuffles.add_blocks.Goals as goal

pub add_block-requires-clause-small : goal.add_block-requires-clause-small
add_block-requires-clause-small c = λ k.
    let low = member_below c.args.field.now c.args.row.now k c.requires.row in
    omega (arith, low)

pub loop-block-preserved : goal.loop-block-preserved
loop-block-preserved c =
    let k = c.args.field.now in
    let before = c.args.out.now in
    let row = c.args.row.now in
    let i = c.args.i in
    let n = c.loop-block.block * 16 in
    let held = c.loop-block.invariant in
    let mul = (ops_of k).mul in
    written_on i n (i + n) 16 (λ m. bit_xor (slice_index_or before (i + m) 0) (mul c.args.c (slice_index_or row m 0))) _ before c.loop-block.out c.add_block.new.out held c.add_block.ensures refl
    (λ m l.
    let place : i + n + m ≡ i + (n + m) = omega arith in
    ap₂ bit_xor
    (ap (λ t. slice_index_or c.loop-block.out t 0) place ∙ held.outside (i + (n + m)) (inr (omega arith)))
    (looked_up-is k c.requires.prime c.args.c c.requires.factor _ _ c.multiples-low.ensures c.multiples-high.ensures c.requires.codes _ (member_below k row (n + m) c.requires.row)))
    _ (omega arith)
