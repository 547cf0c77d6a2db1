use Rattle.residue_field.specs.Base.{ops_of}
use Rattle.residue_field.proofs.BaseLaws.{base_ring}
use Rattle.ring_core.proofs.Coefficients.{elem_read}
use Rattle.ring_core.proofs.RowSteps.{row_added}
use Rattle.ring_core.proofs.Written.{elems_written}
use Rattle.field_tower.proofs.base.BaseFieldField.add_row.Goals as goal

pub returns-clause-elems : goal.returns-clause-elems
returns-clause-elems c =
    let r = ops_of c.args.self.now in
    let closed = (base_ring c.args.self.now).closed in
    elems_written r closed.zero_in c.args.i _ _ c.args.out.now _ c.requires.out
    (λ k l.
    closed.add_in _ _ (elem_read r c.args.out.now closed.zero_in c.requires.out _)
    (closed.mul_in _ _ c.requires.factor (elem_read r c.args.row.now closed.zero_in c.requires.row k)))
    c.add_multiple.ensures

pub returns-clause-added : goal.returns-clause-added
returns-clause-added c =
    row_added (ops_of c.args.self.now) (base_ring c.args.self.now) c.args.i c.args.c c.args.row.now c.args.out.now _ c.requires.factor c.requires.out c.add_multiple.ensures
