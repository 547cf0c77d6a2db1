use Rattle.std.proofs.Common.{◌≡◌, nat_eq, if◌then◌else◌}
use Rattle.ring_core.specs.Coeffs.{first_values}
use Rattle.hom_space.proofs.system.unit.Given as goal

abbrev pub invariant-loop-i : goal.invariant-loop-i
invariant-loop-i g l =
    let base = g.K.Base.Field.ops (g.K.FrobField.base_of l.k) in
    l.list.items ≡ first_values l.i (λ i. if nat_eq i l.j then base.one else base.zero)
