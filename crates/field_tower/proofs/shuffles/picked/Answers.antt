use Rattle.std.proofs.Common.{◌≡◌, ◌+◌, ◌*◌, ◌/◌, slice_index_or, refl, ap, ◌∙◌, arith}
use Rattle.std.proofs.lemmas.Simd.{SwzOk-from_below, Each1-from_get_or, length-swz_l, get_or-swz_l_below}
use mir.Syntax.{w8}
use Rattle.field_tower.proofs.shuffles.picked.Goals as goal

pub swizzle : goal.swizzle
swizzle c = SwzOk-from_below w8 16 1 16 0 c.args.x refl (omega arith) (Each1-from_get_or _ c.args.x 0 (λ j l. c.requires.small j (omega arith)))

pub returns-clause-len : goal.returns-clause-len
returns-clause-len c = length-swz_l w8 16 c.args.table 0 c.args.x ∙ c.requires.len

pub returns-clause-lanes : goal.returns-clause-lanes
returns-clause-lanes c = λ j l.
    let block : 16 * ((0 + j) / 16) + slice_index_or c.args.x j 0 ≡ slice_index_or c.args.x j 0 = omega arith in
    get_or-swz_l_below w8 16 c.args.table 0 c.args.x j (omega arith) (c.requires.small j l) ∙ ap (λ i. slice_index_or c.args.table i 0) block
