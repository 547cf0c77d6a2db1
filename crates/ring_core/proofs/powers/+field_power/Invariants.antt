use Rattle.ring_core.proofs.powers.+field_power.Given as goal

abbrev pub decreases-field_power : goal.decreases-field_power
decreases-field_power g l = l.k
