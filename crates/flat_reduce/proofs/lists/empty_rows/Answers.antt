use Rattle.std.proofs.Common.{◌≡◌, ◌≤◌, ◌+◌, [], ◌∷◌, ◌++◌, nat_lt, ap, ◌∙◌, arith, ltb-true, ltb-false}
use Rattle.ring_core.specs.Coeffs.{is_canonical}
use Rattle.linear_algebra.proofs.Sums.{by_bool}
use Rattle.flat_modules.specs.Flat.{are_flat}
use Rattle.flat_modules.proofs.Lists.{row_past}
use Rattle.flat_reduce.proofs.Pushed.{flat_push, push_each, push_len}
use Rattle.flat_reduce.proofs.lists.empty_rows.Goals as goal

pub loop-i-preserved : goal.loop-i-preserved
loop-i-preserved g c =
    let r = g.F.Field.ops c.args.f.now in
    let before = c.loop-i.invariant in
    let rows = c.loop-i.rows.items in
    let x = c.from_vec.result in
    let pushed : c.push.new.self.items ≡ rows ++ x ∷ [] = c.in_ok-push.ensures.items in
    let empty : x ≡ [] = c.from_vec.ensures ∙ c.new.ensures.items in
    let len = push_len rows c.push.new.self.items x c.loop-i.i pushed before.len in
    record {
      len = len;
      flat = ap (are_flat r) pushed ∙ flat_push r rows x before.flat (ap (is_canonical r) empty);
      empty = λ i. by_bool (nat_lt i (c.loop-i.i + 1))
          (λ b. push_each (λ _ u. u ≡ []) rows c.push.new.self.items x c.loop-i.i pushed before.len (λ i _. before.empty i) empty i (ltb-true i (c.loop-i.i + 1) b))
          (λ b. let l : c.loop-i.i + 1 ≤ i = ltb-false i (c.loop-i.i + 1) b in row_past r c.push.new.self.items i (omega (arith, l, len)));
    }
