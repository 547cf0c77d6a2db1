use Rattle.std.proofs.Common.{◌≡◌, ◌≢◌, ℕ, suc, ◌-◌, ◌<◌, ◌≤◌, cond, nat_eq, length, length-set, slice_set, sym, ◌∙◌, arith, refl, eq-eqb, ne_eqb}
use Rattle.std.proofs.lemmas.Bool.{cond-true, cond-false}
use Rattle.residue_field.specs.declared.TheConstants.{WIDTH}
use Rattle.field_tower.specs.steps.Places.{stored}
use Rattle.field_tower.proofs.Writes.{written, unwritten}
use Rattle.field_tower.proofs.Stored.{stored_from}
use Rattle.field_tower.proofs.places.unit.Goals as goal

pub returns : goal.returns
unfolding stored
returns g c =
    let r = g.F.Field.ops c.args.field.now in
    let n = c.args.n in
    let j = c.args.j in
    let u = c.zeros-list.result in
    let one = c.one.result in
    let g = λ (i : ℕ). cond (nat_eq j i) r.one r.zero in
    let width : length u ≡ WIDTH = omega arith in
    let place : j < n = c.requires.place in
    let room : n ≤ WIDTH = c.requires.room in
    stored_from r (n - 1) (slice_set u j one) g (length-set u j one ∙ width)
    (λ i (l : i < suc (n - 1)). written r u j one g i (omega arith) (c.one.ensures.value ∙ sym (cond-true (nat_eq j j) r.one r.zero (eq-eqb j j refl)))
    (λ (d : i ≢ j). c.zeros-list.ensures.values i ∙ sym (cond-false (nat_eq j i) r.one r.zero (ne_eqb j i (λ e. d (sym e))))))
    (λ i (l : suc (n - 1) ≤ i). let d : i ≢ j = omega arith in unwritten r u j one i d (c.zeros-list.ensures.values i))
