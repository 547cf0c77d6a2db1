use Rattle.std.proofs.Common.{◌≢◌, ◌+◌, ◌-◌, ◌<◌, ◌≤◌, length, ◌∙◌, arith, get_or-set_same, get_or-set_other}
use Rattle.ring_core.proofs.Coefficients.{coeff_past, elems_set}
use Rattle.std.proofs.lemmas.Bool.{and_parts}
use Rattle.ore_divide.specs.steps.Sides.{term_on}
use Rattle.ore_divide.proofs.Cleared.{place_cleared}
use Rattle.ore_divide.proofs.Sides.{term_past}
use Rattle.ore_divide.proofs.Reduced.{divided_start, divided_more}
use Rattle.ore_divide.proofs.rows.clear_places.Goals as goal

pub loop-k-init : goal.loop-k-init
loop-k-init g c =
    let k = c.args.field.now in
    let r = g.K.Field.ops k in
    let field = g.met.K.Field.laws k in
    record {
      rest_elems = c.requires.rest;
      quotient_elems = c.requires.quotient;
      zeros = λ n l. c.requires.zeros n;
      divided =
          divided_start r (g.K.Field.inv_of k) _ (g.K.FrobField.frob_ops k) field (g.met.K.FrobField.frob_laws k) c.args.side c.args.rest.now c.args.b.now c.args.quotient.now
          c.requires.rest c.requires.divisor c.requires.quotient c.requires.zeros;
      cleared = λ n l. coeff_past r c.args.rest.now n (omega arith);
    }

pub loop-k-preserved : goal.loop-k-preserved
loop-k-preserved g c =
    let k = c.args.field.now in
    let r = g.K.Field.ops k in
    let f = g.K.FrobField.frob_ops k in
    let field = g.met.K.Field.laws k in
    let laws = g.met.K.FrobField.frob_laws k in
    let held = c.loop-k.invariant in
    let b = c.args.b.now in
    let i = c.loop-k.k - 1 in
    let rest = c.loop-k.rest in
    let quotient = c.loop-k.quotient in
    let factor = c.clear_place-factor.result in
    let step = c.clear_place-factor.ensures in
    let after = c.clear_place-factor.new.rest in
    record {
      rest_elems = step.elems;
      quotient_elems = elems_set r quotient i _ held.quotient_elems c.neg.ensures.elem;
      zeros = λ n (l : n < i). let apart : n ≢ i = omega arith in get_or-set_other quotient i n _ r.zero apart ∙ held.zeros n (omega arith);
      divided =
          divided_more r (g.K.Field.inv_of k) _ f field laws c.args.side c.args.rest.now rest after b quotient _ factor c.neg.result i
          c.requires.rest held.rest_elems step.elems c.requires.divisor step.elem step.below held.quotient_elems
          (elems_set r quotient i _ held.quotient_elems c.neg.ensures.elem) c.neg.ensures.value (held.zeros i (omega arith)) (get_or-set_same quotient i _ r.zero (omega arith))
          (λ n apart. get_or-set_other quotient i n _ r.zero apart) held.divided step.added;
      cleared =
          place_cleared r field.ring rest after i (length b) (term_on c.args.side r f.frob factor i b) held.rest_elems c.requires.nonzero step.cleared step.added
          (term_past r (g.K.Field.inv_of k) _ f field laws factor i b (and_parts _ _ c.requires.divisor).0 step.elem c.args.side)
          (λ n (l : i + 1 + length b ≤ n + 1). held.cleared n (omega arith));
    }

pub returns-clause-cleared : goal.returns-clause-cleared
returns-clause-cleared g c = λ n l. c.loop-k.invariant.cleared n (omega arith)
