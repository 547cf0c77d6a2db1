use Rattle.std.proofs.Common.{length}
use Rattle.script_parse.proofs.Lines.{ScriptSoFar}
use Rattle.script_parse.proofs.script.parse.Given as goal

abbrev pub invariant-loop-line : goal.invariant-loop-line
invariant-loop-line l = ScriptSoFar l.bytes l.rest l.number l.at l.statements l.names l.list

abbrev pub decreases-loop-line : goal.decreases-loop-line
decreases-loop-line l = length l.rest
