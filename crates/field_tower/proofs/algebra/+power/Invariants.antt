use Rattle.field_tower.proofs.algebra.+power.Given as goal

abbrev pub decreases-power : goal.decreases-power
decreases-power g l = l.k
