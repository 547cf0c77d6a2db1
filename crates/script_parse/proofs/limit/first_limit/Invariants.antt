use Rattle.std.proofs.Common.{◌≡◌, List, [], length}
use Rattle.script_lang.specs.declared.Token.{Token}
use Rattle.script_parse.specs.Version.{limits_of}
use Rattle.script_parse.specs.Limits.{first_limit}
use Rattle.script_parse.specs.steps.Scan.{IsSeen}
use Rattle.script_parse.proofs.limit.first_limit.Given as goal

abbrev pub invariant-loop-token : goal.invariant-loop-token
invariant-loop-token l = (before : List Token) × IsSeen l.verb before l.seen × (first_limit (limits_of l.limits) l.verb [] l.tokens ≡ first_limit (limits_of l.limits) l.verb before l.rest)

abbrev pub decreases-loop-token : goal.decreases-loop-token
decreases-loop-token l = length l.rest
