use Rattle.std.proofs.Common.{◌≡◌, take}
use Rattle.statement_work.proofs.lists.copied_members.Given as goal

abbrev pub invariant-loop-u : goal.invariant-loop-u
invariant-loop-u l = l.copies.items ≡ take l.u-index l.list
