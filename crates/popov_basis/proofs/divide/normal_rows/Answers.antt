use Rattle.std.proofs.Common.{◌≡◌, ℕ, length, sym, ap, subst, ◌∙◌, arith}
use Rattle.std.proofs.lemmas.Bool.{and_parts}
use Rattle.ring_core.specs.Coeffs.{coeff, are_elems, is_canonical, is_trimmed}
use Rattle.ring_core.proofs.Coefficients.{coeff-trim}
use Rattle.ring_core.proofs.RowSteps.{whole_written}
use Rattle.linear_algebra.specs.Linear.{row_at}
use Rattle.flat_modules.specs.Flat.{IsNormal}
use Rattle.popov_basis.specs.steps.Division.{IsDividedFrom}
use Rattle.popov_basis.proofs.Dividing.{is_normal}
use Rattle.popov_basis.proofs.divide.normal_rows.Goals as goal

pub returns : goal.returns
returns g c =
    let f = c.args.f.now in
    let r = g.F.Field.ops f in
    let ring = (g.met.F.Field.laws f).ring in
    let basis = c.args.basis.now in
    let w = c.args.w in
    let made = c.in_ok-by.by in
    let copied = c.in_ok-rest.rest in
    let new = c.divide.new.by in
    let left = c.divide.new.rest in
    let by = c.deref_mut-2.result.now in
    let by_is : by ≡ made.items = c.deref_mut-2.ensures.value in
    let rest_is : c.deref_mut-3.result.now ≡ copied.items = c.deref_mut-3.ensures.value in
    let x_is = rest_is ∙ c.in_ok-rest.ensures in
    let d = subst (λ x. IsDividedFrom r w 0 basis by new x left) x_is c.in_ok-divide.ensures.divided in
    let by_count : length made.items ≡ made.len = omega (arith, made.ok.0) in
    let rest_count : length copied.items ≡ copied.len = omega (arith, copied.ok.0) in
    let by_lent = ap length by_is in
    let rest_lent = ap length rest_is in
    let left_len : length left ≡ length c.deref_mut-3.result.now = omega arith in
    let whole_by = whole_written made.len new made.items (d.len ∙ by_lent ∙ by_count) by_count in
    let whole_rest = whole_written copied.len left copied.items (left_len ∙ rest_lent ∙ rest_count) rest_count in
    let same : (s : ℕ) → coeff r c.from_vec-2.result s ≡ coeff r left s = λ s.
    ap (λ u. coeff r u s) (c.from_vec-2.ensures ∙ c.trimmed.ensures.value)
    ∙ coeff-trim r ring.closed.zero_in ring.equal _ (ap (are_elems r) whole_rest ∙ c.in_ok-divide.ensures.elems) s ∙ ap (λ u. coeff r u s) whole_rest in
    subst (λ u. IsNormal r w basis c.args.v.now u c.from_vec-2.result) (sym (c.from_vec.ensures ∙ whole_by))
    (is_normal r ring w basis by new c.args.v.now left c.from_vec-2.result (and_parts (are_elems r c.args.v.now) (is_trimmed r c.args.v.now) c.requires.row).0
    (by_lent ∙ c.in_ok-by.ensures.len) (λ i. ap (λ u. row_at u i) by_is ∙ c.in_ok-by.ensures.empty i) c.in_ok-divide.ensures.flat (ap (is_canonical r) c.from_vec-2.ensures ∙ c.trimmed.ensures.elem) same d)
