use Rattle.std.proofs.Common.{◌≡◌, ◌<◌, length, slice_index_or, replicate, bit_xor, bit_and, sym, ap, ◌∙◌, arith}
use Rattle.std.specs.Simd.Lanes.{zip2}
use Rattle.std.proofs.lemmas.Simd.{get_or-zip2, length-zip2, length-replicate, get_or-replicate}
use Rattle.field_tower.proofs.bits.add_masked.Goals as goal

pub returns-clause-len : goal.returns-clause-len
returns-clause-len c =
    let chosen = length-zip2 bit_and (replicate 16 c.args.c) c.args.row (length-replicate 16 c.args.c ∙ sym c.fits-row.0) ∙ length-replicate 16 c.args.c in
    ap length c.masked.ensures ∙ length-zip2 bit_xor c.args.sum (zip2 bit_and (replicate 16 c.args.c) c.args.row) (c.fits-sum.0 ∙ sym chosen) ∙ c.fits-sum.0

pub returns-clause-lanes : goal.returns-clause-lanes
returns-clause-lanes c =
    let sum : length c.args.sum ≡ 16 = c.fits-sum.0 in
    let row : length c.args.row ≡ 16 = c.fits-row.0 in
    let every : length (replicate 16 c.args.c) ≡ 16 = length-replicate 16 c.args.c in
    let chosen : length (zip2 bit_and (replicate 16 c.args.c) c.args.row) ≡ 16 = length-zip2 bit_and (replicate 16 c.args.c) c.args.row (every ∙ sym row) ∙ every in
    λ j (l : j < 16).
    ap (λ v. slice_index_or v j 0) c.masked.ensures
    ∙ get_or-zip2 bit_xor c.args.sum (zip2 bit_and (replicate 16 c.args.c) c.args.row) j 0 0 0 (omega arith) (omega arith)
    ∙ ap (bit_xor (slice_index_or c.args.sum j 0))
    (get_or-zip2 bit_and (replicate 16 c.args.c) c.args.row j 0 0 0 (omega arith) (omega arith)
    ∙ ap (λ x. bit_and x (slice_index_or c.args.row j 0)) (get_or-replicate 16 j c.args.c 0 l))
