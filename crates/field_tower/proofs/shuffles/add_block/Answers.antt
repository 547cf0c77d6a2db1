use Rattle.std.proofs.Common.{◌≡◌, ◌+◌, ◌<◌, inl, inr, length, bit_xor, slice_index_or, sym, ap, ap₂, subst, ◌∙◌, arith}
use Rattle.std.proofs.lemmas.Simd.{length-chunk, get_or-chunk, get_or-put_chunk_below, get_or-put_chunk_at, get_or-put_chunk_above}
use lib.Lanes.{chunk, put_chunk, zip2}
use Rattle.field_tower.specs.steps.Shuffles.{looked_up}
use Rattle.field_tower.proofs.LaneValues.{width-zip, lane-zip}
use Rattle.field_tower.proofs.shuffles.add_block.Goals as goal

pub found-terms-requires-clause-small : goal.found-terms-requires-clause-small
found-terms-requires-clause-small c = λ k l. subst (λ x. x < 256) (sym (get_or-chunk c.args.j 16 c.args.row.now k 0 l)) (c.requires.small (c.args.j + k))

pub returns : goal.returns
returns c =
    let out = c.args.out.now in
    let at = c.args.i + c.args.j in
    let old = chunk at 16 out in
    let terms = c.found-terms.result in
    let wide : length old ≡ 16 = length-chunk at 16 out (omega arith) in
    let long : length (zip2 bit_xor old terms) ≡ 16 = width-zip bit_xor old wide terms c.found-terms.ensures.len in
    let is = c.added-sum.ensures in
    record {
      inside = λ k l.
          ap (λ v. slice_index_or (put_chunk at out v) (at + k) 0) is
          ∙ get_or-put_chunk_at at out (zip2 bit_xor old terms) k 0 (omega arith) (omega arith)
          ∙ lane-zip bit_xor old wide terms c.found-terms.ensures.len k l
          ∙ ap₂ bit_xor (get_or-chunk at 16 out k 0 l)
          (c.found-terms.ensures.lanes k l ∙ ap (looked_up c.args.low c.args.high) (get_or-chunk c.args.j 16 c.args.row.now k 0 l));
      outside = λ k o.
          ap (λ v. slice_index_or (put_chunk at out v) k 0) is
          ∙ elim o [
            | inl low ↦ get_or-put_chunk_below at out (zip2 bit_xor old terms) k 0 low
            | inr high ↦ get_or-put_chunk_above at out (zip2 bit_xor old terms) k 0 (omega arith)
          ];
    }
