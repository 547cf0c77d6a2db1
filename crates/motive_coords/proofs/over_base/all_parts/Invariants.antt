use Rattle.std.proofs.Common.{◌≡◌, ◌/◌, ◌%◌, length}
use Rattle.ring_core.specs.Coeffs.{coeff, first_values, list_of}
use Rattle.ring_core.specs.Twisted.{twisted_ops}
use Rattle.motive_coords.proofs.over_base.all_parts.Given as goal

abbrev pub invariant-loop-q : goal.invariant-loop-q
invariant-loop-q g l =
    let r = g.K.Field.ops l.field in
    let base = g.K.Base.Field.ops (g.K.FrobField.base_of l.field) in
    let f = g.K.FrobField.frob_ops l.field in
    l.parts.items ≡ first_values l.q (λ q. list_of base (length (coeff (twisted_ops r (λ c i. c)) l.list (q / f.degree))) (λ e. f.coord (coeff r (coeff (twisted_ops r (λ c i. c)) l.list (q / f.degree)) e) (q % f.degree)))
