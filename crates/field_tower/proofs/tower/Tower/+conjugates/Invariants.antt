use Rattle.field_tower.proofs.tower.Tower.+conjugates.Given as goal

abbrev pub decreases-conjugates : goal.decreases-conjugates
decreases-conjugates l = l.k
