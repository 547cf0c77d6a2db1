use Rattle.std.proofs.Common.{◌≡◌, sym, subst, false}
use Rattle.std.proofs.lemmas.Bool.{both_ways}
use Rattle.morphism.specs.Arrow.{IsMorphism, arrow}
use Rattle.morphism.proofs.Homomorphisms.{arrow_by_parts}
use Rattle.morphism.proofs.calls.check.Goals as goal

pub returns-then-not-branch : goal.returns-then-not-branch
returns-then-not-branch g c = λ h. both_ways c.in_ok-is_homomorphism.field-0 c.if-not-branch.true (c.in_ok-is_homomorphism.ensures.1 h)

pub returns : goal.returns
returns g c =
    let k = c.args.field.now in
    let is : arrow c.in_ok-u.u c.in_ok-from.from c.in_ok-to.to ≡ arrow c.args.u.now c.args.phi.now c.args.psi.now =
    arrow_by_parts c.in_ok-u.u c.args.u.now c.in_ok-from.from c.args.phi.now c.in_ok-to.to c.args.psi.now c.in_ok-u.ensures.value c.in_ok-from.ensures c.in_ok-to.ensures in (
      is,
      subst (IsMorphism (g.K.Field.ops k) (g.K.FrobField.frob_ops k).frob) (sym is)
          (record { source = c.requires.source; target = c.requires.target; constants = c.requires.constants; hom = c.in_ok-is_homomorphism.ensures.0 c.if-not-branch.false }),
    )
