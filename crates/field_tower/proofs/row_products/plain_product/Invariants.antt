use Rattle.std.proofs.Common.{◌≡◌, ◌*◌, length, true}
use Rattle.ring_core.specs.Coeffs.{are_elems}
use Rattle.ring_core.proofs.RowSteps.{HasRows}
use Rattle.residue_field.specs.declared.TheConstants.{WIDTH}
use Rattle.field_tower.proofs.row_products.plain_product.Given as goal

abbrev pub invariant-loop-i : goal.invariant-loop-i
invariant-loop-i g l =
    let r = g.F.Field.ops l.field in
    record {
      width : length l.sums ≡ 2 * WIDTH;
      elems : are_elems r l.sums ≡ true;
      rows : HasRows r (λ c i. c) l.a l.b l.sums l.b l.i;
    }
