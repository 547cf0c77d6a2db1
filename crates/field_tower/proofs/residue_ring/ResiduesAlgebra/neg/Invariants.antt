use Rattle.ring_core.specs.Coeffs.{coeff}
use Rattle.field_tower.proofs.FilledPlaces.{AreFilled}
use Rattle.field_tower.proofs.residue_ring.ResiduesAlgebra.neg.Given as goal

abbrev pub invariant-loop-i : goal.invariant-loop-i
invariant-loop-i g l = let r = g.F.Field.ops l.self.field.now in AreFilled r (λ j. r.neg (coeff r l.a.0 j)) l.i l.places
