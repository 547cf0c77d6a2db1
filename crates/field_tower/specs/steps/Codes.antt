-- The ring of the codes of residues, as the functions that make tables have it.
use Rattle.std.specs.Prelude.{ℕ, ◌/◌, ◌%◌, List}
use Rattle.ring_core.specs.Ring.{RingOps}
use Rattle.ring_core.specs.Coeffs.{first_values}
use Rattle.field_tower.specs.declared.codes.Codes.{Codes}
use Rattle.field_tower.specs.steps.Places.{codes_modulo}

-- The ring of the residues as their codes.
abbrev pub code_ops : Codes → RingOps ℕ
code_ops k = codes_modulo k.prime.p k.modulus.now

-- The first `n` of the sums of all pairs of codes, row after row.
abbrev pub first_sums : Codes → ℕ → List ℕ
first_sums k n = first_values n (λ m. (code_ops k).add (m / k.q) (m % k.q))
