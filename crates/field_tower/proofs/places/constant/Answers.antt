use Rattle.std.proofs.Common.{◌≡◌, ◌≢◌, ◌≤◌, ℕ, suc, length, slice_set, length-set, sym, refl, ◌∙◌, arith}
use Rattle.ring_core.specs.Coeffs.{coeff}
use Rattle.residue_field.specs.declared.TheConstants.{WIDTH}
use Rattle.residue_field.specs.Residue.{constant_at}
use Rattle.field_tower.proofs.Writes.{written}
use Rattle.field_tower.proofs.Stored.{constant_past, stored_from}
use Rattle.field_tower.proofs.places.constant.Goals as goal

pub returns : goal.returns
returns g c =
    λ n.
    let r = g.F.Field.ops c.args.field.now in
    let x = c.args.c in
    let zeros = c.zeros-places.result in
    let width : length zeros ≡ WIDTH = omega arith in
    let at : (j : ℕ) → coeff r (slice_set zeros 0 x) j ≡ constant_at r x j =
    λ j. written r zeros 0 x (constant_at r x) j (omega arith) refl (λ d. c.zeros-places.ensures.values j ∙ constant_past r x j d) in
    stored_from r n _ (constant_at r x) (length-set zeros 0 x ∙ width) (λ j l. at j)
    (λ j (l : suc n ≤ j). let d : j ≢ 0 = omega arith in at j ∙ sym (constant_past r x j d))
