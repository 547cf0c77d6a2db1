use Rattle.std.proofs.Common.{◌≡◌, sym, subst, ◌∙◌}
use Rattle.ring_core.specs.Twisted.{list_mul}
use Rattle.drinfeld_mod.specs.Image.{image}
use Rattle.morphism.specs.Arrow.{IsMorphism, arrow}
use Rattle.morphism.proofs.Homomorphisms.{hom_image, arrow_by_parts}
use Rattle.morphism.proofs.calls.act.Goals as goal

pub returns : goal.returns
returns g c =
    let k = c.args.field.now in
    let r = g.K.Field.ops k in
    let f = g.K.FrobField.frob_ops k in
    let u = c.args.u.now in
    let own = c.requires.homomorphism in
    let target = list_mul r f.frob u.ore (image r (g.K.Base.Field.ops (g.K.FrobField.base_of k)) f u.source c.args.a.now) in
    let is : arrow c.in_ok-product.product c.in_ok-from.from c.in_ok-to.to ≡ arrow target u.source u.target =
    arrow_by_parts c.in_ok-product.product target c.in_ok-from.from u.source c.in_ok-to.to u.target
    (rw (c.new.ensures, c.ore.ensures, c.in_ok-image.ensures.value, c.source.ensures) at c.in_ok-product.ensures.value) (c.in_ok-from.ensures ∙ c.source-2.ensures) (c.in_ok-to.ensures ∙ c.target.ensures) in
    record {
      value = is;
      morphism = subst (IsMorphism r f.frob) (sym is)
          (record {
            source = own.source;
            target = own.target;
            constants = own.constants;
            hom = hom_image (g.met.K.Field.laws k) (g.met.K.Base.Field.laws (g.K.FrobField.base_of k)) (g.met.K.FrobField.frob_laws k) u.source u.target u.ore c.args.a.now own.source own.target c.requires.poly own.hom;
          });
    }
