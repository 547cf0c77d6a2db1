use Rattle.std.proofs.Common.{◌%◌, ◌∙◌, ap}
use Rattle.residue_field.specs.Base.{ops_of}
use Rattle.operand_value.proofs.Elements.{reduced_in}
use Rattle.operand_value.proofs.fields.reduced.Goals as goal

pub returns-clause-elem : goal.returns-clause-elem
returns-clause-elem c =
    let k = c.args.base.now in
    ap (λ p. (ops_of k).is_elem (c.args.n % p)) c.p.ensures ∙ reduced_in k c.args.n
