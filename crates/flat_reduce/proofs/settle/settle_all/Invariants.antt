use Rattle.std.proofs.Common.{◌≡◌, true, length}
use Rattle.flat_modules.specs.Flat.{are_flat}
use Rattle.flat_reduce.specs.steps.Turns.{Turns}
use Rattle.flat_reduce.specs.steps.Settled.{IsUnsettled}
use Rattle.flat_reduce.proofs.settle.settle_all.Given as goal

abbrev pub invariant-loop-i : goal.invariant-loop-i
invariant-loop-i g l =
    let r = g.F.Field.ops l.f in
    record {
      images : are_flat r l.image ≡ true;
      lefts : are_flat r l.left ≡ true;
      columns : are_flat r l.columns ≡ true;
      image_len : length l.image ≡ length l.fn.image;
      left_len : length l.left ≡ length l.fn.left;
      columns_len : length l.columns ≡ length l.fn.columns;
      unsettled : IsUnsettled l.w l.i l.i l.slot l.image;
      turned : Turns r l.w (length l.fn.left) l.fn.image l.fn.left l.fn.columns l.image l.left l.columns;
    }
