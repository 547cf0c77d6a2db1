-- A list is a module where it is told to be one.
use Rattle.std.proofs.Common.{◌≡◌, ◌&&◌, ◌≤◌, ap₂, nat_le, true, List, length, arith}
use Rattle.std.proofs.lemmas.Bool.{leb-true, le-leb}
use Rattle.ring_core.specs.Ring.{RingOps}
use Rattle.ring_core.specs.Coeffs.{is_canonical}
use Rattle.drinfeld_mod.specs.Module.{IsModule}
use Rattle.statement_operands.specs.Sound.{is_module_list}
use Rattle.statement_operands.proofs.Truths.{both_left, both_right}

pub told_module : {E : Type 0} (r : RingOps E) (phi : List E) → is_module_list r phi ≡ true → IsModule r phi
told_module r phi h =
    let sizes = both_right (is_canonical r phi) (nat_le 2 (length phi) && nat_le (length phi) 9) h in
    let low : 2 ≤ length phi = leb-true 2 (length phi) (both_left (nat_le 2 (length phi)) (nat_le (length phi) 9) sizes) in
    let high : length phi ≤ 9 = leb-true (length phi) 9 (both_right (nat_le 2 (length phi)) (nat_le (length phi) 9) sizes) in
    record {
      canonical = both_left (is_canonical r phi) (nat_le 2 (length phi) && nat_le (length phi) 9) h;
      rank_pos = omega (arith, low);
      rank_small = omega (arith, high);
    }

pub module_told : {E : Type 0} (r : RingOps E) (phi : List E) → IsModule r phi → is_module_list r phi ≡ true
module_told r phi m =
    let pos = m.rank_pos in
    let small = m.rank_small in
    ap₂ (λ a b. a && b) m.canonical
    (ap₂ (λ a b. a && b) (le-leb 2 (length phi) (omega (arith, pos))) (le-leb (length phi) 9 (omega (arith, small))))
