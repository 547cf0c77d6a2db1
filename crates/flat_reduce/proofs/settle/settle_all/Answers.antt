use Rattle.std.proofs.Common.{length, refl, subst, arith}
use Rattle.flat_reduce.specs.steps.Turns.{Turns, none}
use Rattle.flat_reduce.proofs.Settling.{turns_more, unsettled_next}
use Rattle.flat_reduce.proofs.settle.settle_all.Goals as goal

pub loop-i-init : goal.loop-i-init
loop-i-init g c = record {
  images = c.requires.images;
  lefts = c.requires.lefts;
  columns = c.requires.columns;
  image_len = refl;
  left_len = refl;
  columns_len = refl;
  unsettled = c.requires.unsettled;
  turned = none;
}

pub loop-i-preserved : goal.loop-i-preserved
loop-i-preserved g c =
    let r = g.F.Field.ops c.args.f.now in
    let before = c.loop-i.invariant in
    record {
      images = c.in_ok-settle.ensures.images;
      lefts = c.in_ok-settle.ensures.lefts;
      columns = c.in_ok-settle.ensures.columns;
      image_len = omega (arith, before.image_len);
      left_len = omega (arith, before.left_len);
      columns_len = omega (arith, before.columns_len);
      unsettled = unsettled_next c.args.w c.loop-i.i c.settle.new.slot c.settle.new.image c.in_ok-settle.ensures.unsettled;
      turned = turns_more r c.args.w (length c.args.left.now) c.args.image.now c.args.left.now c.args.columns.now c.loop-i.image c.loop-i.left c.loop-i.columns c.settle.new.image c.settle.new.left c.settle.new.columns before.turned
          (subst (λ n. Turns r c.args.w n c.loop-i.image c.loop-i.left c.loop-i.columns c.settle.new.image c.settle.new.left c.settle.new.columns) before.left_len c.in_ok-settle.ensures.turned);
    }
