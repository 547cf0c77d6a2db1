use Rattle.ring_core.proofs.Coefficients.{elem_read}
use Rattle.std.proofs.lemmas.List.{get_or_read}
use Rattle.std.proofs.Common.{ap, ◌∙◌}
use Rattle.ring_core.proofs.lists.coeff_at.Goals as goal

pub returns-then-i-list-clause-elem : goal.returns-then-i-list-clause-elem
returns-then-i-list-clause-elem g c =
    let r = g.K.Field.ops c.args.field.now in
    let list = c.args.list.now in
    ap r.is_elem (get_or_read list c.args.i _ c.if-i-list.true c.index-list-i.is r.zero)
    ∙ elem_read r list (g.met.K.Field.laws c.args.field.now).ring.closed.zero_in c.requires c.args.i
