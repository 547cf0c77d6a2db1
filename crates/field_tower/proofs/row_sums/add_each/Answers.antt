use Rattle.std.proofs.Common.{◌≡◌, ◌+◌, ◌<◌, length, slice_index_or, refl, ap, ap₂, ◌∙◌, arith}
use Rattle.ring_core.specs.Coeffs.{coeff}
use Rattle.ring_core.proofs.Coefficients.{elems_set, elem_read}
use Rattle.ring_core.proofs.Written.{written_more, next_place}
use Rattle.residue_field.specs.Base.{ops_of}
use Rattle.residue_field.proofs.BaseLaws.{base_ring}
use Rattle.field_tower.proofs.RowValues.{read_zero}
use Rattle.field_tower.proofs.row_sums.add_each.Goals as goal

pub mul-term-requires-clause-right : goal.mul-term-requires-clause-right
mul-term-requires-clause-right c =
    let r = ops_of c.args.field.now in
    let row = c.args.row.now in
    ap r.is_elem (read_zero c.args.field.now row c.loop-j.j) ∙ elem_read r row (base_ring c.args.field.now).closed.zero_in c.requires.row c.loop-j.j

pub add-requires-clause-left : goal.add-requires-clause-left
add-requires-clause-left c =
    let r = ops_of c.args.field.now in
    let out = c.loop-j.out in
    let place = c.args.i + c.loop-j.j in
    ap r.is_elem (read_zero c.args.field.now out place) ∙ elem_read r out (base_ring c.args.field.now).closed.zero_in c.loop-j.invariant.elems place

pub loop-j-preserved : goal.loop-j-preserved
loop-j-preserved c =
    let k = c.args.field.now in
    let r = ops_of k in
    let before = c.args.out.now in
    let out = c.loop-j.out in
    let row = c.args.row.now in
    let i = c.args.i in
    let j = c.loop-j.j in
    let room : i + j < length out = omega arith in
    let old : slice_index_or out (i + j) 0 ≡ coeff r before (i + j) = read_zero k out (i + j) ∙ next_place r.zero i j _ before out c.loop-j.invariant.written in
    record {
      elems = elems_set r out (i + j) _ c.loop-j.invariant.elems c.add.ensures.elem;
      written =
          written_more r.zero i j (i + j) (λ k. r.add (coeff r before (i + k)) (r.mul c.args.c (coeff r row k))) before out _ c.loop-j.invariant.written refl room
          (c.add.ensures.value ∙ ap₂ r.add old (c.mul-term.ensures.value ∙ ap (r.mul c.args.c) (read_zero k row j)));
    }
