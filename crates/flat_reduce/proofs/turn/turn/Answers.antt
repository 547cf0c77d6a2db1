use Rattle.std.proofs.Common.{length, sym, ap, subst, ◌∙◌, arith}
use Rattle.linear_algebra.specs.Linear.{row_at}
use Rattle.flat_reduce.specs.steps.Turns.{IsRowAdded}
use Rattle.flat_reduce.proofs.Reading.{read_elems, read_len, read_coeff}
use Rattle.flat_reduce.proofs.RowSteps.{not_empty_len, turn_of, shorter_of, inverse_of, has_inverse}
use Rattle.flat_reduce.proofs.turn.turn.Goals as goal

pub coeff_at-top-requires : goal.coeff_at-top-requires
coeff_at-top-requires g c =
    read_elems (g.F.Field.ops c.args.f.now) c.args.image.now c.requires.images c.args.p _ c.index-image-p-2.result c.requires.first c.as_slice.ensures

pub coeff_at-low-requires : goal.coeff_at-low-requires
coeff_at-low-requires g c =
    read_elems (g.F.Field.ops c.args.f.now) c.args.image.now c.requires.images c.args.q _ c.index-image-q-2.result c.requires.second c.as_slice-2.ensures

pub returns-clause-turned : goal.returns-clause-turned
returns-clause-turned g c =
    let f = c.args.f.now in
    let r = g.F.Field.ops f in
    let field = g.met.F.Field.laws f in
    let image = c.args.image.now in
    let a = read_len image c.args.p c.len-a.result c.index-image-p.result c.requires.first c.len-a.ensures in
    let b = read_len image c.args.q c.len-b.result c.index-image-q.result c.requires.second c.len-b.ensures in
    let pos = not_empty_len (row_at image c.args.q) c.requires.nonzero in
    let v = inverse_of r (g.F.Field.inv_of f) field c.coeff_at-low.result c.in-Some.inverse c.coeff_at-low.ensures.elem (sym c.inv.ensures.value ∙ c.in-Some.is) in
    let ci = ap r.is_elem (c.neg-c.ensures.value ∙ ap r.neg c.mul.ensures.value) ∙ field.ring.closed.neg_in _ (field.ring.closed.mul_in _ _ c.coeff_at-top.ensures.elem v.0) in
    turn_of r (g.F.Field.inv_of f) field c.args.w (length c.args.left.now) c.args.p c.args.q c.len-a.result c.len-b.result c.in-Some-checked_mul.t c.neg-c.result image c.args.left.now c.args.columns.now
    c.add_row.new.rows c.add_row-2.new.rows c.add_row-3.new.rows (omega (arith, c.requires.width)) a b (omega (arith, b, pos)) (omega (arith, a, b, c.requires.lower)) c.requires.place
    (omega (arith, c.in-Some-checked_mul.ensures)) ci c.in_ok-add_row.ensures.added c.in_ok-add_row-2.ensures.added (subst (λ x. IsRowAdded r c.args.q c.args.p c.in-Some-checked_mul.t x c.args.columns.now c.add_row-3.new.rows) c.neg.ensures.value c.in_ok-add_row-3.ensures.added)

pub returns-clause-shorter : goal.returns-clause-shorter
returns-clause-shorter g c =
    let f = c.args.f.now in
    let r = g.F.Field.ops f in
    let field = g.met.F.Field.laws f in
    let image = c.args.image.now in
    let a = read_len image c.args.p c.len-a.result c.index-image-p.result c.requires.first c.len-a.ensures in
    let b = read_len image c.args.q c.len-b.result c.index-image-q.result c.requires.second c.len-b.ensures in
    let pos = not_empty_len (row_at image c.args.q) c.requires.nonzero in
    shorter_of r (g.F.Field.inv_of f) field c.args.w (length c.args.left.now) c.args.p c.args.q c.len-a.result c.len-b.result c.in-Some-checked_mul.t c.neg-c.result image c.args.left.now c.args.columns.now
    c.add_row.new.rows c.add_row-2.new.rows c.add_row-3.new.rows (omega (arith, c.requires.width)) a b (omega (arith, b, pos)) (omega (arith, a, b, c.requires.lower)) c.requires.place
    c.requires.images c.in_ok-add_row.ensures.flat c.coeff_at-top.result c.coeff_at-low.result c.in-Some.inverse c.coeff_at-top.ensures.elem c.coeff_at-low.ensures.elem
    (c.coeff_at-top.ensures.value ∙ read_coeff r image c.args.p _ _ c.index-image-p-2.result c.requires.first c.as_slice.ensures)
    (c.coeff_at-low.ensures.value ∙ read_coeff r image c.args.q _ _ c.index-image-q-2.result c.requires.second c.as_slice-2.ensures)
    (sym c.inv.ensures.value ∙ c.in-Some.is) (c.neg-c.ensures.value ∙ ap r.neg c.mul.ensures.value) c.in_ok-add_row.ensures.added

pub returns-in_default-clause-turned : goal.returns-in_default-clause-turned
returns-in_default-clause-turned g c =
    let f = c.args.f.now in
    let image = c.args.image.now in
    let b = read_len image c.args.q c.len-b.result c.index-image-q.result c.requires.second c.len-b.ensures in
    absurd (has_inverse (g.F.Field.ops f) (g.F.Field.inv_of f) (g.met.F.Field.laws f) image c.args.q c.len-b.result c.coeff_at-low.result c.requires.images c.requires.nonzero b
    (c.coeff_at-low.ensures.value ∙ read_coeff (g.F.Field.ops f) image c.args.q _ _ c.index-image-q-2.result c.requires.second c.as_slice-2.ensures) c.coeff_at-low.ensures.elem
    (λ x e. c.in_default.not-Some x (c.inv.ensures.value ∙ e)))

pub returns-in_default-clause-shorter : goal.returns-in_default-clause-shorter
returns-in_default-clause-shorter g c =
    let f = c.args.f.now in
    let image = c.args.image.now in
    let b = read_len image c.args.q c.len-b.result c.index-image-q.result c.requires.second c.len-b.ensures in
    absurd (has_inverse (g.F.Field.ops f) (g.F.Field.inv_of f) (g.met.F.Field.laws f) image c.args.q c.len-b.result c.coeff_at-low.result c.requires.images c.requires.nonzero b
    (c.coeff_at-low.ensures.value ∙ read_coeff (g.F.Field.ops f) image c.args.q _ _ c.index-image-q-2.result c.requires.second c.as_slice-2.ensures) c.coeff_at-low.ensures.elem
    (λ x e. c.in_default.not-Some x (c.inv.ensures.value ∙ e)))
