use Rattle.std.proofs.Common.{◌≡◌, ◌+◌, ◌-◌, ◌*◌, length, sym, ap, subst, ◌∙◌, arith}
use Rattle.std.proofs.lemmas.Bool.{and_parts}
use Rattle.ring_core.specs.Coeffs.{coeff, are_elems}
use Rattle.ring_core.proofs.Degrees.{not_empty, top_nonzero}
use Rattle.central_coords.specs.Coordinates.{IsLeadingPlace}
use Rattle.central_coords.specs.steps.Highest.{IsHighestCoordinate}
use Rattle.central_coords.proofs.Places.{extension}
use Rattle.central_coords.proofs.Leading.{leading}
use Rattle.central_coords.proofs.highest.lead.Goals as goal

pub unreachable-requires : goal.unreachable-requires
unreachable-requires g c =
    let r = g.K.Field.ops c.args.k.now in
    let u = c.args.u.now in
    let ring = (g.met.K.Field.laws c.args.k.now).ring in
    let last : c.in-Some.last ≡ length u - 1 = omega (arith, c.len.ensures) in
    let zero = rw c.in_default-highest_coordinate.is at c.highest_coordinate.ensures in
    top_nonzero r ring.closed.zero_in ring.equal u (and_parts (are_elems r u) _ c.requires.elem).1 (not_empty u (omega (arith, c.len.ensures)))
    (ap (coeff r u) (sym last) ∙ sym (c.coeff_at-top.ensures.value ∙ ap (λ v. coeff r v c.in-Some.last) c.as_slice.ensures) ∙ zero)

pub returns : goal.returns
returns g c =
    let k = c.args.k.now in
    let r = g.K.Field.ops k in
    let base = g.K.Base.Field.ops (g.K.FrobField.base_of k) in
    let f = g.K.FrobField.frob_ops k in
    let o = extension (g.met.K.Field.laws k) (g.met.K.Base.Field.laws (g.K.FrobField.base_of k)) (g.met.K.FrobField.frob_laws k) in
    let u = c.args.u.now in
    let top = c.coeff_at-top.ensures.value ∙ ap (λ v. coeff r v c.in-Some.last) c.as_slice.ensures in
    let highest = subst (λ x. IsHighestCoordinate base f x c.in-Some-highest_coordinate.j) top (rw c.in-Some-highest_coordinate.is at c.highest_coordinate.ensures) in
    subst (λ n. IsLeadingPlace r base f u (c.in-Some.last * n + c.in-Some-highest_coordinate.j)) (sym c.degree.ensures)
    (leading o u c.in-Some.last c.in-Some-highest_coordinate.j (omega (arith, c.len.ensures)) highest)
