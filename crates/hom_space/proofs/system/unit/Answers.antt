use Rattle.std.proofs.Common.{◌≡◌, nat_eq, if◌then◌else◌, [], length, ap, ◌∙◌, arith}
use Rattle.ring_core.specs.Coeffs.{are_elems, first_values}
use Rattle.ring_core.proofs.FirstValues.{length-first_values}
use Rattle.central_coords.proofs.Places.{extension, unit_elems}
use Rattle.central_coords.proofs.Rows.{values_after}
use Rattle.hom_space.proofs.system.unit.Goals as goal

pub loop-i-preserved : goal.loop-i-preserved
loop-i-preserved g c =
    values_after [] c.loop-i.i _ _ _ _ c.in_ok-push.ensures.items c.loop-i.invariant
    (c.unit_member.ensures.value ∙ ap (λ y. if nat_eq c.loop-i.i c.args.j then (g.K.Base.Field.ops y).one else (g.K.Base.Field.ops y).zero) c.base.ensures)

pub of_coords-requires-clause-elems : goal.of_coords-requires-clause-elems
of_coords-requires-clause-elems g c =
    let k = c.args.k.now in
    let o = extension (g.met.K.Field.laws k) (g.met.K.Base.Field.laws (g.K.FrobField.base_of k)) (g.met.K.FrobField.frob_laws k) in
    let f = g.K.FrobField.frob_ops k in
    let base = g.K.Base.Field.ops (g.K.FrobField.base_of k) in
    let last : c.loop-i.i ≡ f.degree = omega (arith, c.degree-i-end.ensures) in
    let list = c.deref.ensures.value ∙ c.loop-i.invariant ∙ ap (λ n. first_values n (λ i. if nat_eq i c.args.j then base.one else base.zero)) last in
    ap (are_elems base) list ∙ unit_elems o c.args.j

pub of_coords-requires-clause-places : goal.of_coords-requires-clause-places
of_coords-requires-clause-places g c = ap length (c.deref.ensures.value ∙ c.loop-i.invariant) ∙ length-first_values c.loop-i.i _ ∙ omega (arith, c.degree-i-end.ensures)

pub returns-clause-value : goal.returns-clause-value
returns-clause-value g c =
    let k = c.args.k.now in
    let f = g.K.FrobField.frob_ops k in
    let base = g.K.Base.Field.ops (g.K.FrobField.base_of k) in
    let last : c.loop-i.i ≡ f.degree = omega (arith, c.degree-i-end.ensures) in
    let list = c.deref.ensures.value ∙ c.loop-i.invariant ∙ ap (λ n. first_values n (λ i. if nat_eq i c.args.j then base.one else base.zero)) last in
    c.of_coords.ensures.value ∙ ap f.of_coords list
