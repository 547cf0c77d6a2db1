use Rattle.std.proofs.Common.{◌^◌, nat_lt, sym, ap, ◌∙◌}
use Rattle.field_tower.proofs.BaseValues.{elem-is}
use Rattle.field_tower.proofs.base.BaseFieldField.is_elem.Goals as goal

pub returns : goal.returns
returns c =
    let count = c.self.inside.count ∙ ap (λ k. k.p ^ k.s) c.self.view_is in
    ap (nat_lt c.args.a) count ∙ sym (elem-is c.args.self.now c.args.a)
