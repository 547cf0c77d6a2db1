use Rattle.std.proofs.Common.{length}
use Rattle.motive_coords.proofs.Expansions.{IsPart}
use Rattle.motive_coords.proofs.expansion.digits_of.Given as goal

abbrev pub invariant-loop-alloc : goal.invariant-loop-alloc
invariant-loop-alloc g l =
    IsPart (g.K.Field.ops l.field) (g.K.Field.inv_of l.field) (g.K.Base.Field.ops (g.K.FrobField.base_of l.field)) (g.K.FrobField.frob_ops l.field) (g.met.K.Field.laws l.field) (g.met.K.FrobField.frob_laws l.field)
    l.letter l.u l.rest (length l.digits.items) l.digits.items

abbrev pub decreases-loop-alloc : goal.decreases-loop-alloc
decreases-loop-alloc g l = length l.rest
