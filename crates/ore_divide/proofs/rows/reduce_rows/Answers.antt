use Rattle.std.proofs.Common.{◌+◌, ◌-◌, ◌≤◌, length, arith}
use Rattle.ring_core.proofs.Coefficients.{coeff_past}
use Rattle.std.proofs.lemmas.Bool.{and_parts}
use Rattle.ore_divide.specs.declared.side.Side.TheVariants.{Right}
use Rattle.ore_divide.specs.steps.Sides.{term_on}
use Rattle.ore_divide.proofs.Cleared.{place_cleared}
use Rattle.ore_divide.proofs.Sides.{term_past}
use Rattle.ore_divide.proofs.Reduced.{reduced_start, reduced_more}
use Rattle.ore_divide.proofs.rows.reduce_rows.Goals as goal

pub loop-k-init : goal.loop-k-init
loop-k-init g c =
    let k = c.args.field.now in
    let r = g.K.Field.ops k in
    record {
      rest_elems = c.requires.rest;
      left_elems = c.requires.left;
      right_elems = c.requires.right;
      reduced =
          reduced_start r (g.K.Field.inv_of k) _ (g.K.FrobField.frob_ops k) (g.met.K.Field.laws k) (g.met.K.FrobField.frob_laws k)
          c.args.rest.now c.args.left.now c.args.right.now c.args.b.now c.args.s.now c.args.w.now
          c.requires.rest c.requires.left c.requires.right c.requires.divisor c.requires.left_partner c.requires.right_partner;
      cleared = λ n l. coeff_past r c.args.rest.now n (omega arith);
    }

pub loop-k-preserved : goal.loop-k-preserved
loop-k-preserved g c =
    let k = c.args.field.now in
    let r = g.K.Field.ops k in
    let f = g.K.FrobField.frob_ops k in
    let field = g.met.K.Field.laws k in
    let laws = g.met.K.FrobField.frob_laws k in
    let held = c.loop-k.invariant in
    let b = c.args.b.now in
    let i = c.loop-k.k - 1 in
    let factor = c.clear_place-factor.result in
    let step = c.clear_place-factor.ensures in
    let left = c.add_multiple.ensures in
    let right = c.add_multiple-in-loop-k.ensures in
    record {
      rest_elems = step.elems;
      left_elems = left.elems;
      right_elems = right.elems;
      reduced =
          reduced_more r (g.K.Field.inv_of k) _ f field laws c.args.rest.now c.args.left.now c.args.right.now b c.args.s.now c.args.w.now
          c.requires.rest c.requires.left c.requires.right c.requires.divisor c.requires.left_partner c.requires.right_partner
          c.loop-k.rest c.loop-k.left c.loop-k.right c.clear_place-factor.new.rest c.add_multiple.new.out c.add_multiple-in-loop-k.new.out factor i held.reduced
          held.rest_elems held.left_elems held.right_elems step.elems left.elems right.elems step.elem step.below left.below right.below step.added left.added right.added;
      cleared =
          place_cleared r field.ring c.loop-k.rest c.clear_place-factor.new.rest i (length b) (term_on Right r f.frob factor i b) held.rest_elems c.requires.nonzero step.cleared step.added
          (term_past r (g.K.Field.inv_of k) _ f field laws factor i b (and_parts _ _ c.requires.divisor).0 step.elem Right)
          (λ n (l : i + 1 + length b ≤ n + 1). held.cleared n (omega arith));
    }

pub returns-clause-cleared : goal.returns-clause-cleared
returns-clause-cleared g c = λ n l. c.loop-k.invariant.cleared n (omega arith)
