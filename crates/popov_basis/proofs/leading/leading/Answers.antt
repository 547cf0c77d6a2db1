use Rattle.std.proofs.Common.{◌≡◌, [], ◌∷◌, ◌++◌, length, sym, ap, subst, ◌∙◌}
use Rattle.ring_core.specs.Coeffs.{is_canonical}
use Rattle.linear_algebra.specs.Linear.{row_at}
use Rattle.flat_modules.specs.Flat.{are_flat}
use Rattle.flat_modules.proofs.Lists.{flat_at}
use Rattle.popov_basis.specs.steps.Leading.{IsMonicOf, IsLeading}
use Rattle.flat_reduce.proofs.Reading.{read_len}
use Rattle.flat_reduce.proofs.Pushed.{flat_push}
use Rattle.flat_reduce.proofs.Reading.{read_row}
use Rattle.popov_basis.proofs.Leads.{leading_more, leading_all}
use Rattle.popov_basis.proofs.leading.leading.Goals as goal

pub monic_row-requires-clause-row : goal.monic_row-requires-clause-row
monic_row-requires-clause-row g c =
    let r = g.F.Field.ops c.args.f.now in
    let image = c.args.image.now in
    ap (is_canonical r) (read_row image c.in-Some.i _ c.index-image-i.result c.in-Some.ensures.within (c.as_slice.ensures ∙ c.index-image-i.is)) ∙ flat_at r image c.requires.images c.in-Some.i

pub loop-i-preserved : goal.loop-i-preserved
loop-i-preserved g c =
    let r = g.F.Field.ops c.args.f.now in
    let image = c.args.image.now in
    let i = c.in-Some.i in
    let next = c.in-Some.ensures in
    let list = c.loop-i.list.items in
    let x = c.from_vec.result in
    let before = c.loop-i.invariant in
    let pushed : c.push.new.self.items ≡ list ++ x ∷ [] = c.in_ok-push.ensures.items in
    let same = c.from_vec.ensures in
    let read = read_row image i _ c.index-image-i.result next.within (c.as_slice.ensures ∙ c.index-image-i.is) in
    let above = read_len image i c.len-above.result c.index-image-i-in-Some.result next.within (c.len-above.ensures ∙ ap length c.index-image-i-in-Some.is) in
    let monic : IsMonicOf r (row_at image i) x = subst (λ u. IsMonicOf r u x) read (subst (IsMonicOf r c.as_slice.result.now) (sym same) c.in_ok-row.ensures.monic) in
    record {
      flat = ap (are_flat r) pushed ∙ flat_push r list x before.flat (ap (is_canonical r) same ∙ c.in_ok-row.ensures.flat);
      leading = subst (λ n. IsLeading r image n c.push.new.self.items) (sym above)
          (subst (IsLeading r image (length (row_at image i))) (sym pushed) (leading_more r image c.loop-i.above list before.leading i next x monic c.requires.apart));
    }

pub returns-clause-leading : goal.returns-clause-leading
returns-clause-leading g c =
    leading_all (g.F.Field.ops c.args.f.now) c.args.image.now c.loop-i.above c.loop-i.list.items c.loop-i.invariant.leading c.in_default.ensures
