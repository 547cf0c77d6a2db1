use Rattle.std.proofs.Common.{ap, ◌∙◌}
use Rattle.ring_core.specs.Twisted.{list_mul}
use Rattle.ring_core.proofs.ListRing.{frob_ring}
use Rattle.morphism.proofs.Decided.{decided}
use Rattle.morphism.proofs.calls.is_homomorphism.Goals as goal

pub returns : goal.returns
returns g c =
    let k = c.args.field.now in
    let r = g.K.Field.ops k in
    let frob = (g.K.FrobField.frob_ops k).frob in
    let ring = frob_ring _ _ _ _ (g.met.K.Field.laws k) (g.met.K.FrobField.frob_laws k) in
    let here = c.new-ring.ensures in
    let same = decided _ ring.equal c.in_ok-left.left c.in_ok-right.right (list_mul r frob c.args.u.now c.args.phi.now) (list_mul r frob c.args.psi.now c.args.u.now) c.equal.result
    (rw here at c.in_ok-left.ensures.elem) (rw here at c.in_ok-right.ensures.elem) (rw here at c.equal.ensures)
    ((rw here at c.in_ok-left.ensures.value) ∙ ap (λ s. list_mul r frob c.args.u.now s) c.in_ok-source.ensures.value)
    ((rw here at c.in_ok-right.ensures.value) ∙ ap (λ s. list_mul r frob s c.args.u.now) c.in_ok-target.ensures.value) in
    (λ yes. record { canonical = c.requires.candidate; commutes = same.0 yes }, λ h. same.1 h.commutes)
