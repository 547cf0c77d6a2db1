use Rattle.std.proofs.Common.{◌-◌, sym, ap, ◌∙◌}
use Rattle.field_tower.proofs.BaseValues.{base-zero}
use Rattle.residue_field.specs.Base.{ops_of}
use Rattle.residue_field.proofs.BaseLaws.{base_ring}
use Rattle.field_tower.proofs.base.BaseFieldField.zero.Goals as goal

pub returns-clause-value : goal.returns-clause-value
returns-clause-value c = let k = c.args.self.now in sym (base-zero k.p (k.s - 1) k.modulus)

pub returns-clause-elem : goal.returns-clause-elem
returns-clause-elem c = ap (ops_of c.args.self.now).is_elem (returns-clause-value c) ∙ (base_ring c.args.self.now).closed.zero_in
