use Rattle.std.proofs.Common.{◌≡◌, ◌+◌, ◌-◌, ◌<◌, length, take, sym, ap, ◌∙◌, arith, true}
use Rattle.std.proofs.lemmas.Bool.{false_from_ne_true}
use Rattle.std.proofs.lemmas.List.{length-take-le}
use Rattle.ring_core.specs.Coeffs.{coeff, first_values, is_trimmed, trim}
use Rattle.ring_core.proofs.Coefficients.{elem_read, elems_take, trim-trimmed, trimmed_push, values_more}
use Rattle.ring_core.proofs.FirstValues.{values_same}
use Rattle.ore_divide.proofs.Cleared.{without_top}
use Rattle.ore_divide.proofs.common.made_monic.Goals as goal

pub scaled_values-requires-clause-elems : goal.scaled_values-requires-clause-elems
scaled_values-requires-clause-elems g c = elems_take (g.K.Field.ops c.args.k.now) (length c.args.list.now - 1) c.args.list.now c.requires.elems

pub returns : goal.returns
returns g c =
    let r = g.K.Field.ops c.args.k.now in
    let k = g.met.K.Field.laws c.args.k.now in
    let list = c.args.list.now in
    let inverse = c.args.inverse in
    let made = c.push.new.self.items in
    let high = length list - 1 in
    let zero_in = k.ring.closed.zero_in in
    let one = c.one.ensures.value in
    let one_in = c.one.ensures.elem in
    let long : length list ≡ high + 1 = omega arith in
    let short : length (take high list) ≡ high = length-take-le high list (omega arith) in
    let top : c.one.result ≡ r.mul inverse (coeff r list high) =
    one ∙ sym c.requires.inverts ∙ k.mul_comm (coeff r list high) inverse (elem_read r list zero_in c.requires.elems high) c.requires.inverse_in in
    let below = c.in_ok-values.ensures.value ∙ ap (λ n. first_values n (λ i. r.mul inverse (coeff r (take high list) i))) short
    ∙ values_same high _ (λ i. r.mul inverse (coeff r list i)) (λ i (low : i < high). ap (r.mul inverse) (without_top r list high i long (λ e. omega (arith, low, e)))) in
    let trimmed : is_trimmed r made ≡ true =
    ap (is_trimmed r) c.in_ok-push.ensures.items
    ∙ trimmed_push r c.in_ok-values.values.items c.one.result (false_from_ne_true _ (λ s. k.one_ne_zero (sym one ∙ k.ring.equal.same_eq _ _ one_in zero_in s))) in
    sym (trim-trimmed r made trimmed)
    ∙ ap (trim r) (values_more r high (λ i. r.mul inverse (coeff r list i)) c.in_ok-values.values.items made c.one.result c.in_ok-push.ensures.items below top
    ∙ ap (λ n. first_values n (λ i. r.mul inverse (coeff r list i))) (sym long))
