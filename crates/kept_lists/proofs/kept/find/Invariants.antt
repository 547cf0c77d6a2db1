use Rattle.std.proofs.Common.{◌≡◌, drop}
use Rattle.kept_lists.specs.Pairs.{has_pair, pairs_of}
use Rattle.kept_lists.proofs.kept.find.Given as goal

abbrev pub invariant-loop-list : goal.invariant-loop-list
invariant-loop-list g l =
    has_pair (g.K.Field.ops l.k) l.phi l.psi (pairs_of (drop l.list-index l.kept)) ≡ has_pair (g.K.Field.ops l.k) l.phi l.psi (pairs_of l.kept)
