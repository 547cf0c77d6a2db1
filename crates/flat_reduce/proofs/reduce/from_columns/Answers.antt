use Rattle.std.proofs.Common.{◌≡◌, ◌+◌, ◌*◌, ◌/◌, ◌%◌, [], ◌∷◌, ◌++◌, length, ap, ◌∙◌}
use Rattle.ring_core.specs.Coeffs.{coeff, is_canonical}
use Rattle.linear_algebra.specs.Linear.{entry}
use Rattle.flat_modules.specs.Flat.{are_flat}
use Rattle.flat_reduce.proofs.Pushed.{push_each, push_len, flat_push}
use Rattle.flat_reduce.proofs.reduce.from_columns.Goals as goal

pub loop-i-preserved : goal.loop-i-preserved
loop-i-preserved g c =
    let r = g.F.Field.ops c.args.f.now in
    let before = c.loop-i.invariant in
    let rows = c.loop-i.rows.items in
    let x = c.from_vec.result in
    let n = length c.args.columns.now in
    let pushed : c.push.new.self.items ≡ rows ++ x ∷ [] = c.in_ok-push.ensures.items in
    record {
      len = push_len rows _ x c.loop-i.i pushed before.len;
      flat = ap (are_flat r) pushed ∙ flat_push r rows x before.flat (ap (is_canonical r) c.from_vec.ensures ∙ c.in_ok-row_across.ensures.flat);
      rows = λ i t l. push_each (λ i u. coeff r u t ≡ entry r c.args.columns.now (t % n) (t / n * n + i)) rows _ x c.loop-i.i pushed before.len (λ i b. before.rows i t b)
          (ap (λ u. coeff r u t) c.from_vec.ensures ∙ c.in_ok-row_across.ensures.row t) i l;
    }
