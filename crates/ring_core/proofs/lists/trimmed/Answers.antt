use Rattle.std.proofs.Common.{◌≡◌, ap, ◌∙◌}
use Rattle.ring_core.specs.Coeffs.{trim, is_canonical}
use Rattle.ring_core.proofs.Coefficients.{canonical-trim}
use Rattle.ring_core.proofs.lists.trimmed.Goals as goal

pub returns-clause-elem : goal.returns-clause-elem
returns-clause-elem g c =
    let r = g.K.Field.ops c.args.field.now in
    let kept : c.truncate.new.self.items ≡ trim r c.args.list.items = cc in
    ap (is_canonical r) kept ∙ canonical-trim r c.args.list.items c.requires
