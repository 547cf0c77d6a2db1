use Rattle.std.proofs.Common.{inl, inr, ◌≡◌, ◌+◌, length, replicate, slice_index_or, sym, ap, ◌∙◌, arith}
use Rattle.std.proofs.lemmas.Bool.{cases_lt}
use Rattle.std.proofs.lemmas.Simd.{get_or-put_chunk_at, get_or-put_chunk_above}
use Rattle.ring_core.proofs.Coefficients.{coeff_past}
use Rattle.residue_field.specs.Prime.{prime_ops}
use Rattle.field_tower.proofs.LaneValues.{zeros-read}
use Rattle.field_tower.proofs.lanes.between_zeros.Goals as goal

pub returns-clause-places : goal.returns-clause-places
returns-clause-places c = λ k.
    let width : length c.args.x.0 ≡ 16 = omega arith in
    ap (λ v. slice_index_or v (16 + k) 0) c.write_at.ensures
    ∙ elim (cases_lt k 16) [
      | inl l ↦ get_or-put_chunk_at 16 (replicate 48 0) c.args.x.0 k 0 (omega arith) (omega arith)
      | inr m ↦
          get_or-put_chunk_above 16 (replicate 48 0) c.args.x.0 (16 + k) 0 (omega arith)
          ∙ zeros-read 48 (16 + k) ∙ sym (coeff_past (prime_ops 2) c.args.x.0 k (omega arith))
    ]
