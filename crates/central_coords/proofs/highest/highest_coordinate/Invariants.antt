use Rattle.std.proofs.Common.{◌≡◌, ℕ, ◌<◌, ◌≤◌}
use Rattle.central_coords.proofs.highest.highest_coordinate.Given as goal

abbrev pub invariant-loop-j : goal.invariant-loop-j
invariant-loop-j g l =
    let f = g.K.FrobField.frob_ops l.k in
    (i : ℕ) → l.j ≤ i → i < f.degree → f.coord l.c i ≡ (g.K.Base.Field.ops (g.K.FrobField.base_of l.k)).zero
