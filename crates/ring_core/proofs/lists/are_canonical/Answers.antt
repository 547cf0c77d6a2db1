use Rattle.std.proofs.Common.{◌&&◌, length, nat_eq, sym, ap, ◌∙◌}
use Rattle.ring_core.specs.Coeffs.{is_trimmed}
use Rattle.ring_core.proofs.Coefficients.{trimmed_by_length}
use Rattle.ring_core.proofs.lists.are_canonical.Goals as goal

pub returns-then-all_elems : goal.returns-then-all_elems
returns-then-all_elems g c =
    let r = g.K.Field.ops c.args.field.now in
    let list = c.args.list.now in
    ap (λ n. nat_eq n (length list)) c.trimmed_len.ensures.value ∙ trimmed_by_length r list
    ∙ ap (λ b. b && is_trimmed r list) (sym c.if-all_elems.true ∙ c.all_elems.ensures)
