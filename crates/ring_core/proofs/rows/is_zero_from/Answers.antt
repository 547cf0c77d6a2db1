use Rattle.std.proofs.Common.{◌≡◌, ◌≢◌, ⊎_elim, sym, ◌∙◌, ap, arith}
use Rattle.std.proofs.lemmas.Bool.{cases_eq}
use Rattle.ring_core.specs.Coeffs.{coeff}
use Rattle.ring_core.proofs.rows.is_zero_from.Goals as goal

pub loop-k-preserved : goal.loop-k-preserved
loop-k-preserved g c =
    let r = g.K.Field.ops c.args.field.now in
    let row = c.args.row.now in
    let read = c.coeff_at-member.ensures in
    let same = (g.met.K.Field.laws c.args.field.now).ring.equal.same_eq _ _ read.elem c.zero-zero.ensures.elem (sym c.equal.ensures ∙ c.if-not-equal.false) in
    λ k from below.
    ⊎_elim
    (λ (here : k ≡ c.loop-k.k). ap (coeff r row) here ∙ sym read.value ∙ same ∙ c.zero-zero.ensures.value)
    (λ (other : k ≢ c.loop-k.k). c.loop-k.invariant k from (omega arith))
    (cases_eq k c.loop-k.k)
