use Rattle.ring_core.specs.Coeffs.{coeff}
use Rattle.field_tower.proofs.FilledPlaces.{AreFilled}
use Rattle.field_tower.proofs.letters.first_row.Given as goal

abbrev pub invariant-loop-i : goal.invariant-loop-i
invariant-loop-i g l = let r = g.F.Field.ops l.field in AreFilled r (λ j. r.neg (coeff r l.modulus j)) l.i l.places
