use Rattle.std.proofs.Common.{◌≡◌, [], ◌∷◌, ◌++◌, ap, ◌∙◌}
use Rattle.ring_core.specs.Coeffs.{coeff, are_elems}
use Rattle.ring_core.proofs.Coefficients.{elems_push, coeff-trim}
use Rattle.flat_reduce.proofs.Pushed.{zeros_one}
use Rattle.flat_reduce.proofs.lists.unit_row.Goals as goal

pub trimmed-requires : goal.trimmed-requires
trimmed-requires g c =
    let r = g.F.Field.ops c.args.f.now in
    let closed = (g.met.F.Field.laws c.args.f.now).ring.closed in
    let row = c.in_ok-row.row.items in
    let pushed : c.push.new.self.items ≡ row ++ c.one.result ∷ [] = c.in_ok-push.ensures.items in
    ap (are_elems r) pushed ∙ elems_push r row c.one.result c.in_ok-row.ensures.elems (ap r.is_elem c.one.ensures.value ∙ closed.one_in)

pub returns-clause-unit : goal.returns-clause-unit
returns-clause-unit g c =
    let r = g.F.Field.ops c.args.f.now in
    let ring = (g.met.F.Field.laws c.args.f.now).ring in
    let closed = ring.closed in
    let row = c.in_ok-row.row.items in
    let pushed : c.push.new.self.items ≡ row ++ c.one.result ∷ [] = c.in_ok-push.ensures.items in
    let elems = ap (are_elems r) pushed ∙ elems_push r row c.one.result c.in_ok-row.ensures.elems (ap r.is_elem c.one.ensures.value ∙ closed.one_in) in
    λ t.
    ap (λ u. coeff r u t) c.trimmed.ensures.value ∙ coeff-trim r closed.zero_in ring.equal c.push.new.self.items elems t
    ∙ ap (λ u. coeff r u t) (pushed ∙ ap (λ x. row ++ x ∷ []) c.one.ensures.value ∙ ap (λ u. u ++ r.one ∷ []) c.in_ok-row.ensures.value)
    ∙ zeros_one r c.args.i t
