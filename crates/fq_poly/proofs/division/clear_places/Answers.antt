use Rattle.std.proofs.Common.{◌≢◌, ◌+◌, ◌-◌, ◌<◌, ◌≤◌, length, ap, ◌∙◌, get_or-set_other, arith}
use Rattle.std.proofs.lemmas.Bool.{and_parts}
use Rattle.ring_core.proofs.Coefficients.{coeff_past, elems_set}
use Rattle.fq_poly.proofs.Clearing.{sum_started, sum_kept, place_cleared}
use Rattle.fq_poly.proofs.division.clear_places.Goals as goal

pub loop-k-init : goal.loop-k-init
loop-k-init g c =
    let r = g.F.Field.ops c.args.field.now in
    let field = g.met.F.Field.laws c.args.field.now in
    let rest = c.args.rest.now in
    record {
      rest_elems = c.requires.rest;
      quotient_elems = c.requires.quotient;
      sum = sum_started r field.ring field.one_ne_zero rest c.args.quotient.now c.args.b.now c.requires.rest c.requires.divisor c.requires.quotient c.requires.zeros;
      empty = λ n l. c.requires.zeros n;
      cleared = λ n l. coeff_past r rest n (omega arith);
    }

pub loop-k-preserved : goal.loop-k-preserved
loop-k-preserved g c =
    let r = g.F.Field.ops c.args.field.now in
    let field = g.met.F.Field.laws c.args.field.now in
    let held = c.loop-k.invariant in
    let b = c.args.b.now in
    let k = c.loop-k.k - 1 in
    let rest = c.loop-k.rest in
    let quotient = c.loop-k.quotient in
    let factor = c.mul-factor in
    let minus = c.neg-minus in
    let added = c.add_scaled.ensures in
    let left = c.add_scaled.new.out in
    let room : k < length quotient = omega arith in
    let is_quotient = factor.ensures.value ∙ ap (λ x. r.mul x c.args.inverse) c.coeff_at-top.ensures.value in
    record {
      rest_elems = added.elems;
      quotient_elems = elems_set r quotient k factor.result held.quotient_elems factor.ensures.elem;
      sum =
          sum_kept r field.ring field.one_ne_zero c.args.rest.now b quotient rest left k factor.result minus.result c.requires.divisor held.quotient_elems held.rest_elems added.elems
          factor.ensures.elem minus.ensures.elem room (held.empty k (omega arith)) minus.ensures.value held.sum added.below added.added;
      empty = λ n (l : n < k). let other : n ≢ k = omega arith in get_or-set_other quotient k n factor.result r.zero other ∙ held.empty n (omega arith);
      cleared =
          place_cleared r field.ring b rest left k c.args.inverse factor.result minus.result field.mul_comm (and_parts _ _ c.requires.divisor).0 held.rest_elems c.requires.inverse_in minus.ensures.elem
          c.requires.nonzero c.requires.inverts is_quotient minus.ensures.value (λ n (l : k + 1 + length b ≤ n + 1). held.cleared n (omega arith)) added.added;
    }

pub returns-clause-cleared : goal.returns-clause-cleared
returns-clause-cleared g c = λ n l. c.loop-k.invariant.cleared n (omega arith)
