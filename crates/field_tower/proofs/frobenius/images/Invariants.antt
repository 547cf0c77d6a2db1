use Rattle.std.proofs.Common.{◌≡◌}
use Rattle.ring_core.specs.Coeffs.{first_values}
use Rattle.field_tower.specs.steps.Images.{frob_image}
use Rattle.field_tower.proofs.frobenius.images.Given as goal

abbrev pub invariant-loop-m : goal.invariant-loop-m
invariant-loop-m l = l.images.items ≡ first_values l.m (frob_image l.base l.n l.modulus)
