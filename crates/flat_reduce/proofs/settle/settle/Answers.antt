use Rattle.std.proofs.Common.{◌≡◌, ◌-◌, ◌%◌, ◌<◌, length, refl, sym, ap, subst, arith}
use Rattle.std.proofs.Math.Nat.{mod-lt}
use Rattle.linear_algebra.specs.Linear.{row_at}
use Rattle.flat_reduce.specs.steps.Turns.{Turns, none}
use Rattle.flat_reduce.proofs.Reading.{read_len}
use Rattle.flat_reduce.proofs.Settling.{turns_more, unsettled_placed, unsettled_done, none_if, empty_row}
use Rattle.flat_reduce.proofs.settle.settle.Goals as goal

pub loop-alloc-init : goal.loop-alloc-init
loop-alloc-init g c = record {
  images = c.requires.images;
  lefts = c.requires.lefts;
  columns = c.requires.columns;
  image_len = refl;
  left_len = refl;
  columns_len = refl;
  within = omega arith;
  unsettled = c.requires.unsettled;
  turned = none;
}

pub returns-in_default-clause-unsettled : goal.returns-in_default-clause-unsettled
returns-in_default-clause-unsettled g c =
    let image = c.loop-alloc.image in
    let p = c.loop-alloc.p in
    let before = c.loop-alloc.invariant in
    let inside : p < length image = omega (arith, before.within, before.image_len, c.requires.within) in
    let whole = read_len image p c.len.result c.index-image-p.result inside c.len.ensures in
    let len = read_len image p c.len-in-loop-alloc.result c.index-image-p-in-loop-alloc.result inside c.len-in-loop-alloc.ensures in
    let here : (length (row_at image p) - 1) % c.args.w ≡ (c.len-in-loop-alloc.result - 1) % c.args.w = ap (λ u. (u - 1) % c.args.w) (sym len) in
    let low = mod-lt (c.len-in-loop-alloc.result - 1) {m = c.args.w} (omega (arith, c.requires.width)) in
    unsettled_placed c.args.w c.args.i p c.loop-alloc.slot image before.unsettled ((c.len-in-loop-alloc.result - 1) % c.args.w) (omega (arith, low, before.unsettled.len)) before.within
    (λ z. let e = ap length z in omega (arith, e, whole, c.loop-alloc-test.true)) here
    (none_if _ (λ q e. c.in_default.not-Some q e))

pub settle_once-requires-clause-second : goal.settle_once-requires-clause-second
settle_once-requires-clause-second g c =
    let before = c.loop-alloc.invariant in
    let s = before.unsettled.names ((c.len-in-loop-alloc.result - 1) % c.args.w) c.in-Some.q c.in-Some.is in
    let low = s.within in
    omega (arith, low, before.image_len, c.requires.within)

pub loop-alloc-preserved : goal.loop-alloc-preserved
loop-alloc-preserved g c =
    let r = g.F.Field.ops c.args.f.now in
    let before = c.loop-alloc.invariant in
    record {
      images = c.in_ok-p.ensures.images;
      lefts = c.in_ok-p.ensures.lefts;
      columns = c.in_ok-p.ensures.columns;
      image_len = omega (arith, before.image_len);
      left_len = omega (arith, before.left_len);
      columns_len = omega (arith, before.columns_len);
      within = c.in_ok-p.ensures.within;
      unsettled = c.in_ok-p.ensures.unsettled;
      turned = turns_more r c.args.w (length c.args.left.now) c.args.image.now c.args.left.now c.args.columns.now c.loop-alloc.image c.loop-alloc.left c.loop-alloc.columns c.settle_once.new.image c.settle_once.new.left c.settle_once.new.columns before.turned
          (subst (λ n. Turns r c.args.w n c.loop-alloc.image c.loop-alloc.left c.loop-alloc.columns c.settle_once.new.image c.settle_once.new.left c.settle_once.new.columns) before.left_len c.in_ok-p.ensures.turned);
    }

pub returns-clause-unsettled : goal.returns-clause-unsettled
returns-clause-unsettled g c =
    let image = c.loop-alloc.image in
    let p = c.loop-alloc.p in
    let before = c.loop-alloc.invariant in
    let inside : p < length image = omega (arith, before.within, before.image_len, c.requires.within) in
    let whole = read_len image p c.len.result c.index-image-p.result inside c.len.ensures in
    unsettled_done c.args.w c.args.i p c.loop-alloc.slot image before.unsettled (empty_row (row_at image p) (omega (arith, whole, c.loop-alloc-test.false)))
