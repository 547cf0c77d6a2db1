use Rattle.std.proofs.Common.{◌≡◌, ◌+◌, ◌-◌, ◌*◌, ◌/◌, inr, length, take, drop, bit_xor, slice_index_or, ap, ap₂, ◌∙◌, arith, refl}
use Rattle.std.proofs.lemmas.List.{get_or-drop, get_or-take, length-drop, length-take-le}
use Rattle.ring_core.proofs.Coefficients.{elems_take}
use Rattle.ring_core.proofs.PowerLaws.{elems_drop}
use Rattle.residue_field.specs.Base.{ops_of}
use Rattle.residue_field.proofs.BaseLaws.{base_ring}
use Rattle.field_tower.proofs.ShuffleValues.{written_on}
use Rattle.field_tower.proofs.row_sums.add_shuffled.Goals as goal

pub add_logged-requires-clause-row : goal.add_logged-requires-clause-row
add_logged-requires-clause-row c =
    let k = c.args.field.now in
    elems_take (ops_of k) _ _ (elems_drop (ops_of k) (base_ring k) (length c.args.row.now / 16 * 16) c.args.row.now c.requires.row)

pub returns : goal.returns
returns c =
    let before = c.args.out.now in
    let row = c.args.row.now in
    let i = c.args.i in
    let n = length row / 16 * 16 in
    let mul = (ops_of c.args.field.now).mul in
    let first = c.add_blocks.ensures in
    let left : length (take (length row - n) (drop n row)) ≡ length row - n = length-take-le (length row - n) (drop n row) (omega (arith, length-drop n row)) in
    written_on i n (i + n) _ (λ m. bit_xor (slice_index_or before (i + m) 0) (mul c.args.c (slice_index_or row m 0))) _ before _ _ first c.add_logged.ensures refl
    (λ m l.
    let place : i + n + m ≡ i + (n + m) = omega arith in
    ap₂ bit_xor
    (ap (λ t. slice_index_or c.add_blocks.new.out t 0) place ∙ first.outside (i + (n + m)) (inr (omega arith)))
    (ap (mul c.args.c) (get_or-take (length row - n) (drop n row) m 0 (omega (arith, left)) ∙ get_or-drop n row m 0)))
    (length row) (omega (arith, left))
