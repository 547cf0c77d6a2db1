use Rattle.std.proofs.Common.{sym, ◌∙◌, ap, subst}
use Rattle.ring_core.specs.Twisted.{list_mul}
use Rattle.drinfeld_mod.specs.Module.{constant_of}
use Rattle.morphism.specs.Homomorphism.{IsHomomorphism}
use Rattle.morphism.specs.Arrow.{IsMorphism}
use Rattle.morphism.proofs.Homomorphisms.{hom_product, arrow_by_parts}
use Rattle.morphism.proofs.calls.compose.Goals as goal

pub returns-clause-morphism : goal.returns-clause-morphism
returns-clause-morphism g c =
    let k = c.args.field.now in
    let r = g.K.Field.ops k in
    let frob = (g.K.FrobField.frob_ops k).frob in
    let u = c.args.u.now in
    let v = c.args.v.now in
    let first = c.requires.first in
    let second = c.requires.second in
    let hom = subst (λ s. IsHomomorphism r frob s v.target v.ore) c.requires.meet second.hom in
    subst (IsMorphism r frob)
    (sym
    (arrow_by_parts c.in_ok-product.product (list_mul r frob v.ore u.ore) c.in_ok-from.from u.source c.in_ok-to.to v.target
    (rw (c.new.ensures, c.ore.ensures, c.ore-2.ensures) at c.in_ok-product.ensures.value) (c.in_ok-from.ensures ∙ c.source.ensures) (c.in_ok-to.ensures ∙ c.target.ensures)))
    (record {
      source = first.source;
      target = second.target;
      constants = first.constants ∙ ap (constant_of r) (sym c.requires.meet) ∙ second.constants;
      hom = hom_product (g.met.K.Field.laws k) (g.met.K.Base.Field.laws (g.K.FrobField.base_of k)) (g.met.K.FrobField.frob_laws k) u.source u.target v.target u.ore v.ore first.source first.target second.target first.hom hom;
    })
