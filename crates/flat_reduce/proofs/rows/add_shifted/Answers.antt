use Rattle.std.proofs.Common.{◌≡◌, length, sym, ap, ◌∙◌, arith, eqb-true}
use Rattle.ring_core.specs.Coeffs.{coeff, are_elems}
use Rattle.ring_core.proofs.Coefficients.{elem_read, coeff-trim}
use Rattle.ring_core.proofs.RowSteps.{whole_written}
use Rattle.flat_modules.specs.Flat.{shifted}
use Rattle.flat_reduce.proofs.RowSteps.{shift_added, none_added}
use Rattle.flat_reduce.proofs.rows.add_shifted.Goals as goal

pub returns-clause-added : goal.returns-clause-added
returns-clause-added g c =
    let r = g.F.Field.ops c.args.f.now in
    let ring = (g.met.F.Field.laws c.args.f.now).ring in
    let z = ring.closed.zero_in in
    let out = c.extend.new.list in
    let written = c.add_scaled.new.out in
    let lent : length c.deref_mut.result.now ≡ length out.items = ap length c.deref_mut.ensures.value in
    let kept : length written ≡ length c.deref_mut.result.now = omega arith in
    let count : length out.items ≡ out.len = omega (arith, out.ok.0) in
    let whole = whole_written out.len written out.items (kept ∙ lent ∙ count) count in
    λ t.
    ap (λ u. coeff r u t) c.trimmed-2.ensures.value ∙ coeff-trim r z ring.equal _ (ap (are_elems r) whole ∙ c.add_scaled.ensures.elems) t
    ∙ ap (λ u. coeff r u t) whole
    ∙ shift_added r ring c.args.s c.args.c (coeff r c.deref_mut.result.now) (coeff r written) (coeff r c.args.row.now) c.requires.factor (elem_read r c.deref_mut.result.now z (ap (are_elems r) c.deref_mut.ensures.value ∙ c.extend.ensures.elems)) (λ k l. c.add_scaled.ensures.below k l) (λ k. c.add_scaled.ensures.added k) t
    ∙ ap (λ v. r.add v (r.mul c.args.c (shifted r c.args.s (coeff r c.args.row.now) t))) (ap (λ u. coeff r u t) c.deref_mut.ensures.value ∙ c.extend.ensures.coeffs t)

pub returns-then-is_empty-clause-added : goal.returns-then-is_empty-clause-added
returns-then-is_empty-clause-added g c =
    let r = g.F.Field.ops c.args.f.now in
    let ring = (g.met.F.Field.laws c.args.f.now).ring in
    let z = ring.closed.zero_in in
    λ t.
    ap (λ u. coeff r u t) c.trimmed.ensures.value ∙ coeff-trim r z ring.equal c.args.list.items c.requires.list t
    ∙ none_added r ring c.args.s c.args.c (coeff r c.args.list.items t) c.args.row.now t c.requires.factor (elem_read r c.args.list.items z c.requires.list t) (eqb-true (length c.args.row.now) 0 (sym c.is_empty.ensures ∙ c.if-is_empty.true))
