use Rattle.std.proofs.Common.{inl, inr, ◌≡◌, suc, ◌-◌, ◌<◌, ◌≤◌, length, sym, ◌∙◌, arith}
use Rattle.std.proofs.lemmas.Bool.{cases_lt}
use Rattle.ring_core.proofs.Coefficients.{coeff_past}
use Rattle.residue_field.specs.declared.TheConstants.{WIDTH}
use Rattle.residue_field.specs.Base.{ops_of}
use Rattle.field_tower.specs.steps.Images.{combined_images}
use Rattle.field_tower.proofs.Stored.{stored_from}
use Rattle.field_tower.proofs.LaneValues.{zeros-read}
use Rattle.field_tower.proofs.ModularForms.{modular_of, large_of, read_is, place_low, image_low, combined_is, combined_past, none_before}
use Rattle.field_tower.proofs.modular.combination.Goals as goal

pub combined-requires-clause-coeffs : goal.combined-requires-clause-coeffs
combined-requires-clause-coeffs c =
    let base = c.args.base.now in
    let p = c.p.result in
    place_low (ops_of base) p (large_of base p c.p.ensures c.requires.prime) (modular_of base p c.p.ensures c.requires.prime) c.args.c.0 c.requires.coeffs

pub combined-requires-clause-rows : goal.combined-requires-clause-rows
combined-requires-clause-rows c =
    image_low c.args.base.now c.p.result c.p.ensures c.requires.prime c.args.n c.args.images.now c.args.start c.args.c
    c.requires.positive c.requires.room c.requires.coeffs c.requires.images c.requires.row

pub returns : goal.returns
returns c =
    let base = c.args.base.now in
    let r = ops_of base in
    let p = c.p.result in
    let n = c.args.n in
    let x = c.combined.result in
    let positive : 0 < n = c.requires.positive in
    let room : n ≤ 16 = c.requires.room in
    let width : length x.0 ≡ WIDTH = omega arith in
    let read = read_is r p (large_of base p c.p.ensures c.requires.prime) (modular_of base p c.p.ensures c.requires.prime) x.0 in
    let zero_is = (modular_of base p c.p.ensures c.requires.prime).zero_is in
    stored_from r (n - 1) x.0 (combined_images r n c.args.images.now c.args.start c.args.c) width
    (λ i (l : i < suc (n - 1)).
    read i ∙ c.combined.ensures i (omega arith)
    ∙ none_before _ _ p (zeros-read 16 i)
    ∙ combined_is base p c.p.ensures c.requires.prime n c.args.images.now c.args.start c.args.c positive room c.requires.coeffs c.requires.images c.requires.row i)
    (λ i (l : suc (n - 1) ≤ i). elim (cases_lt i 16) [
      | inl m ↦
          read i ∙ c.combined.ensures i m
          ∙ none_before _ _ p (zeros-read 16 i)
          ∙ combined_past base p c.p.ensures c.requires.prime n c.args.images.now c.args.start c.args.c positive room c.requires.coeffs c.requires.images c.requires.row i (omega arith)
          ∙ sym zero_is
      | inr m ↦ coeff_past r x.0 i (omega arith)
    ])
