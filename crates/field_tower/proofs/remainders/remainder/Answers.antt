use Rattle.std.proofs.Common.{◌∙◌, arith}
use Rattle.field_tower.proofs.Reciprocal.{quotient_low, quotient_high, remainder_same}
use Rattle.field_tower.proofs.remainders.remainder.Goals as goal

pub overflow_sub-x : goal.overflow_sub-x
overflow_sub-x c = quotient_low 4294967296 c.args.p c.args.x c.args.reciprocal (omega arith) c.requires.reciprocal (omega arith)

pub less_once-requires : goal.less_once-requires
less_once-requires c =
    let low = quotient_low 4294967296 c.args.p c.args.x c.args.reciprocal (omega arith) c.requires.reciprocal (omega arith) in
    let high = quotient_high 4294967296 c.args.p c.args.x c.args.reciprocal (omega arith) c.requires.reciprocal (omega arith) 1 (omega arith) in
    omega arith

pub returns : goal.returns
returns c =
    c.less_once.ensures ∙ remainder_same 4294967296 c.args.p c.args.x c.args.reciprocal (omega arith) c.requires.reciprocal (omega arith)
