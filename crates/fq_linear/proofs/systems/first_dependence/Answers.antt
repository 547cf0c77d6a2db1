use Rattle.std.proofs.Common.{◌≡◌, ◌+◌, ◌*◌, ◌<◌, length, sym, ◌∙◌, ap, ap₂, subst, arith, slice_range}
use Rattle.ring_core.specs.Coeffs.{coeff, are_elems, first_values}
use Rattle.linear_algebra.specs.Linear.{entry, IsFirstDependence}
use Rattle.fq_linear.specs.steps.Elimination.{row_number, is_lead, IsEliminated, augmented}
use Rattle.fq_linear.proofs.Places.{elems_range}
use Rattle.fq_linear.proofs.Slots.{when_none}
use Rattle.fq_linear.proofs.Results.{independent, first_dependence_from}
use Rattle.fq_linear.proofs.systems.first_dependence.Goals as goal

pub returns-in_default : goal.returns-in_default
returns-in_default g c =
    let f = c.args.f.now in
    let r = g.F.Field.ops f in
    let rows = c.args.rows.now in
    let index = c.in_ok-table.table.index.items in
    let cells = c.in_ok-table.table.cells.items in
    let t = subst (λ m. IsEliminated r (m + rows.width) (length rows.rows) (augmented r m (entry r rows.rows)) index cells) c.len.ensures c.in_ok-table.ensures in
    let none = when_none _ _ c.first_lead.result c.in_default.not-Some c.first_lead.ensures in
    independent r (g.F.Field.inv_of f) (g.met.F.Field.laws f) rows.width rows.rows index cells c.requires t
    (λ j l. ap (λ x. is_lead x j) (sym c.deref.ensures.value) ∙ none j (omega (arith, l, c.len-2.ensures)))

pub neg_values-requires : goal.neg_values-requires
neg_values-requires g c =
    let r = g.F.Field.ops c.args.f.now in
    elems_range r (g.met.F.Field.laws c.args.f.now).ring c.deref-2.result.now (c.in-Some.i * c.len-w.result) (c.in-Some.i * c.len-w.result + c.in-Some.k)
    (ap (are_elems r) c.deref-2.ensures.value ∙ c.in_ok-table.ensures.table.elems)

pub returns : goal.returns
returns g c =
    let f = c.args.f.now in
    let r = g.F.Field.ops f in
    let rows = c.args.rows.now in
    let n = length rows.rows in
    let index = c.in_ok-table.table.index.items in
    let cells = c.in_ok-table.table.cells.items in
    let t = subst (λ m. IsEliminated r (m + rows.width) n (augmented r m (entry r rows.rows)) index cells) c.len.ensures c.in_ok-table.ensures in
    let first = c.in-Some.ensures in
    let k = c.in-Some.k in
    let i = c.in-Some.i in
    let within : k < n = omega (arith, first.within, c.len-2.ensures) in
    let found = ap (λ x. row_number x k) (sym c.deref.ensures.value) ∙ first.is in
    let wide : c.len-w.result ≡ n + rows.width = omega (arith, c.len-w.ensures, c.deref.ensures.len, ap length c.deref.ensures.value, t.table.index_len) in
    let same = ap₂ (λ u w. slice_range u (i * w) (i * w + k)) c.deref-2.ensures.value wide in
    let values = ap (λ u. first_values (length u) (λ m. r.neg (coeff r u m))) same in
    subst (IsFirstDependence r rows.rows k) (sym (c.in_ok-coefficients.ensures.value ∙ values))
    (first_dependence_from r (g.F.Field.inv_of f) (g.met.F.Field.laws f) rows.width rows.rows index cells c.requires t k i within found
    (λ j l. ap (λ x. is_lead x j) (sym c.deref.ensures.value) ∙ first.least j l))
