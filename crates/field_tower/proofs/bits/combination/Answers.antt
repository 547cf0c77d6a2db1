use Rattle.std.proofs.Common.{◌≡◌, ℕ, suc, ◌+◌, ◌-◌, ◌<◌, ◌≤◌, inl, inr, length, slice_index_or, bit_and, bit_xor, sym, ap, ap₂, subst, ◌∙◌, arith}
use Rattle.std.proofs.lemmas.Bool.{cases_lt}
use Rattle.std.proofs.lemmas.Simd.{get_or-replicate}
use Rattle.ring_core.proofs.Coefficients.{coeff_past}
use Rattle.residue_field.specs.declared.TheConstants.{WIDTH}
use Rattle.residue_field.specs.Base.{ops_of}
use Rattle.field_tower.specs.steps.Images.{image_at, combined_images}
use Rattle.field_tower.proofs.Stored.{stored_from}
use Rattle.field_tower.proofs.PackedBits.{zero_is, read, member_bit, masked_low, masked_none, combined_none, masked_next}
use Rattle.field_tower.proofs.bits.combination.Goals as goal

pub loop-j-init : goal.loop-j-init
loop-j-init c =
    record {
      lanes = λ i l. get_or-replicate {A = ℕ} 16 i 0 0 l ∙ combined_none c.args.base.now c.requires.binary c.args.images.now c.args.start c.args.c i;
      bits = λ i l. omega (arith, get_or-replicate {A = ℕ} 16 i 0 0 l);
      past = λ i h l. get_or-replicate {A = ℕ} 16 i 0 0 l;
    }

pub loop-j-preserved : goal.loop-j-preserved
loop-j-preserved c =
    let k = c.args.base.now in
    let binary = c.requires.binary in
    let images = c.args.images.now in
    let j = c.loop-j.j in
    let place = c.args.start + j in
    let row : c.args.start + c.args.n ≤ length images = c.requires.row in
    let low : j < c.args.n = c.loop-j-test.true in
    let inside : place < length images = omega arith in
    let coefficient = member_bit k binary c.args.c.0 c.requires.coeffs j in
    let members = member_bit k binary (image_at images place).0 (c.requires.images place inside) in
    let before = c.loop-j.invariant in
    record {
      lanes =
          λ i (l : i < 16).
          c.add_masked-sum.ensures.lanes i l
          ∙ masked_next k binary images c.args.start c.args.c j i (slice_index_or c.loop-j.sum i 0) (before.lanes i l) (before.bits i l) coefficient (members i);
      bits = λ i (l : i < 16). subst (λ v. v < 2) (sym (c.add_masked-sum.ensures.lanes i l)) (masked_low _ _ _ (before.bits i l) coefficient (members i));
      past =
          λ i (h : c.args.n ≤ i) (l : i < 16).
          c.add_masked-sum.ensures.lanes i l
          ∙ ap₂ (λ s y. bit_xor s (bit_and (slice_index_or c.args.c.0 j 0) y)) (before.past i h l) (c.requires.past place i inside h)
          ∙ masked_none _ coefficient;
    }

pub returns : goal.returns
returns c =
    let k = c.args.base.now in
    let r = ops_of k in
    let binary = c.requires.binary in
    let n = c.args.n in
    let sum = c.loop-j.sum in
    let positive : 0 < n = c.requires.positive in
    let room : n ≤ WIDTH = c.requires.room in
    let last : c.loop-j.j ≡ n = omega arith in
    let width : length sum ≡ WIDTH = c.loop-j.auto.sum.0 in
    stored_from r (n - 1) sum (combined_images r n c.args.images.now c.args.start c.args.c) width
    (λ i (l : i < suc (n - 1)).
    sym (read k binary sum i) ∙ c.loop-j.invariant.lanes i (omega arith) ∙ ap (λ m. combined_images r m c.args.images.now c.args.start c.args.c i) last)
    (λ i (l : suc (n - 1) ≤ i). elim (cases_lt i 16) [
      | inl low ↦ sym (read k binary sum i) ∙ c.loop-j.invariant.past i (omega arith) low ∙ sym (zero_is k binary)
      | inr high ↦ coeff_past r sum i (omega arith)
    ])
