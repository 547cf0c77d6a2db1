use Rattle.std.proofs.Common.{sym, ◌∙◌, subst}
use Rattle.ring_core.specs.Twisted.{list_add}
use Rattle.morphism.specs.Homomorphism.{IsHomomorphism}
use Rattle.morphism.specs.Arrow.{IsMorphism}
use Rattle.morphism.proofs.Homomorphisms.{hom_sum, arrow_by_parts}
use Rattle.morphism.proofs.calls.add.Goals as goal

pub returns-clause-morphism : goal.returns-clause-morphism
returns-clause-morphism g c =
    let k = c.args.field.now in
    let r = g.K.Field.ops k in
    let frob = (g.K.FrobField.frob_ops k).frob in
    let u = c.args.u.now in
    let v = c.args.v.now in
    let left = c.requires.left in
    let hom = subst (λ s. IsHomomorphism r frob s u.target v.ore) (sym c.requires.sources) (subst (λ t. IsHomomorphism r frob v.source t v.ore) (sym c.requires.targets) c.requires.right.hom) in
    subst (IsMorphism r frob)
    (sym
    (arrow_by_parts c.in_ok-sum.sum (list_add r u.ore v.ore) c.in_ok-from.from u.source c.in_ok-to.to u.target (rw (c.new.ensures, c.ore.ensures, c.ore-2.ensures) at c.in_ok-sum.ensures.value)
    (c.in_ok-from.ensures ∙ c.source.ensures) (c.in_ok-to.ensures ∙ c.target.ensures)))
    (record {
      source = left.source;
      target = left.target;
      constants = left.constants;
      hom = hom_sum (g.met.K.Field.laws k) (g.met.K.Base.Field.laws (g.K.FrobField.base_of k)) (g.met.K.FrobField.frob_laws k) u.source u.target u.ore v.ore left.source left.target left.hom hom;
    })
