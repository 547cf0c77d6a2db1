use Rattle.std.proofs.Common.{◌≡◌, ◌*◌, ◌<◌, inl, inr, set, slice_index_or, sym, ap, subst, ◌∙◌, arith, length-set, get_or-set_same, get_or-set_other}
use Rattle.std.proofs.lemmas.Bool.{cases_eq}
use Rattle.residue_field.specs.Base.{ops_of, size_of}
use Rattle.field_tower.proofs.shuffles.multiples.Goals as goal

pub loop-k-preserved : goal.loop-k-preserved
loop-k-preserved c =
    let k = c.loop-k.k in
    let n = c.args.field.now in
    let list = c.loop-k.list in
    let x = c.product_with.result in
    let long = c.loop-k.invariant.0 in (
      length-set list k x ∙ long,
      λ m l low.
          elim (cases_eq m k) [
            | inl here ↦
                let place : m * c.args.step ≡ k * c.args.step = ap (λ i. i * c.args.step) here in
                ap (λ i. slice_index_or (set list k x) i 0) here ∙ get_or-set_same list k x 0 (omega (arith, long))
                ∙ c.product_with.ensures (subst (λ a. a < size_of n) place low) ∙ ap ((ops_of n).mul c.args.c) (sym place)
            | inr other ↦ get_or-set_other list k m x 0 other ∙ c.loop-k.invariant.1 m (omega arith) low
          ],
    )

pub returns : goal.returns
returns c = record {
  count = c.loop-k.invariant.0;
  value = λ k l low. c.loop-k.invariant.1 k (omega arith) low;
}
