use Rattle.std.proofs.Common.{length}
use Rattle.script_lang.proofs.Lexing.{TokensSoFar}
use Rattle.script_lang.proofs.lexer.tokens.Given as goal

abbrev pub invariant-loop-byte : goal.invariant-loop-byte
invariant-loop-byte l = TokensSoFar l.content l.rest l.list.items

abbrev pub decreases-loop-byte : goal.decreases-loop-byte
decreases-loop-byte l = length l.rest
