use Rattle.std.proofs.Common.{◌-◌, ◌<◌, ◌≤◌, slice_index_or, sym, ap, ◌∙◌, arith}
use Rattle.residue_field.specs.declared.TheConstants.{WIDTH}
use Rattle.residue_field.specs.Base.{ops_of}
use Rattle.residue_field.proofs.BaseLaws.{base_ring}
use Rattle.residue_field.proofs.TopPlaces.{elems_of, top_stores}
use Rattle.field_tower.specs.steps.Images.{image_at}
use Rattle.field_tower.proofs.BaseValues.{base-zero}
use Rattle.field_tower.proofs.products.combination.Goals as goal

pub combination-requires-clause-images : goal.combination-requires-clause-images
combination-requires-clause-images c =
    let base = c.args.base.now in
    let n = c.args.n in
    let positive : 0 < n = c.requires.positive in
    let room : n ≤ WIDTH = c.requires.room in
    λ k l. elems_of (ops_of base) (base_ring base) (n - 1) (omega arith) (image_at c.args.images.now k) (c.requires.images k l)

pub combination-requires-clause-past : goal.combination-requires-clause-past
combination-requires-clause-past c =
    let base = c.args.base.now in
    let n = c.args.n in
    let positive : 0 < n = c.requires.positive in
    let room : n ≤ WIDTH = c.requires.room in
    let zero = base-zero base.p (base.s - 1) base.modulus in
    λ k i l (past : n ≤ i).
    let x = image_at c.args.images.now k in
    ap (slice_index_or x.0 i) (sym zero) ∙ (top_stores (ops_of base) (base_ring base) (n - 1) (omega arith)).place_past x i (c.requires.images k l) (omega arith) ∙ zero
