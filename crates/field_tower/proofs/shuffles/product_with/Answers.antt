use Rattle.std.proofs.Common.{◌<◌, ◌∙◌, arith, lt-ltb}
use Rattle.residue_field.specs.Base.{size_of}
use Rattle.field_tower.proofs.BaseValues.{elem-is, below_size}
use Rattle.field_tower.proofs.shuffles.product_with.Goals as goal

pub mul-requires-clause-right : goal.mul-requires-clause-right
mul-requires-clause-right c =
    let k = c.args.field.now in
    let low : c.args.code < size_of k = omega arith in
    elem-is k c.args.code ∙ lt-ltb c.args.code (size_of k) low

pub overflow_cast-result : goal.overflow_cast-result
overflow_cast-result c =
    let low = below_size c.args.field.now c.mul.result c.mul.ensures.elem in
    record { fits = omega (arith, low) }
