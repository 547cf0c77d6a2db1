use Rattle.std.proofs.Common.{arith, rules}
use Rattle.script_lang.proofs.Lexing.{value_more}
use Rattle.script_lang.proofs.lexer.number_value.Goals as goal

pub loop-byte-preserved : goal.loop-byte-preserved
loop-byte-preserved c = value_more c.args.digits.now c.loop-byte.byte-index c.loop-byte.value c.min-value.result (search rules) (search rules) c.loop-byte.invariant (omega arith)
