use Rattle.std.proofs.Common.{◌≡◌, [], ◌∷◌, ◌++◌, ap, ◌∙◌}
use Rattle.ring_core.specs.Coeffs.{coeff, is_canonical}
use Rattle.flat_modules.specs.Flat.{are_flat, unit_at}
use Rattle.flat_reduce.proofs.Pushed.{push_each, push_len, flat_push}
use Rattle.flat_reduce.proofs.lists.identity_rows.Goals as goal

pub loop-i-preserved : goal.loop-i-preserved
loop-i-preserved g c =
    let r = g.F.Field.ops c.args.f.now in
    let before = c.loop-i.invariant in
    let rows = c.loop-i.rows.items in
    let x = c.from_vec.result in
    let pushed : c.push.new.self.items ≡ rows ++ x ∷ [] = c.in_ok-push.ensures.items in
    record {
      len = push_len rows _ x c.loop-i.i pushed before.len;
      flat = ap (are_flat r) pushed ∙ flat_push r rows x before.flat (ap (is_canonical r) c.from_vec.ensures ∙ c.in_ok-unit_row.ensures.flat);
      unit = λ i t l. push_each (λ i u. coeff r u t ≡ unit_at r i t) rows _ x c.loop-i.i pushed before.len (λ i b. before.unit i t b) (ap (λ u. coeff r u t) c.from_vec.ensures ∙ c.in_ok-unit_row.ensures.unit t) i l;
    }
