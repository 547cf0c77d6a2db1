use Rattle.std.proofs.Common.{◌≡◌, ◌-◌, ◌%◌, length, sym, ap, ◌∙◌, arith}
use Rattle.std.proofs.Math.Nat.{mod-lt}
use Rattle.linear_algebra.specs.Linear.{row_at}
use Rattle.flat_reduce.specs.steps.Settled.{slot_of}
use Rattle.flat_reduce.specs.steps.Turns.{none, turn}
use Rattle.flat_reduce.proofs.Reading.{read_len}
use Rattle.flat_reduce.proofs.Settling.{rest_row, fewer_by_turn, unsettled_kept, unsettled_swapped}
use Rattle.flat_reduce.proofs.settle.settle_once.Goals as goal

pub returns-in_ok-turn-clause-unsettled : goal.returns-in_ok-turn-clause-unsettled
returns-in_ok-turn-clause-unsettled g c =
    let r = g.F.Field.ops c.args.f.now in
    let ring = (g.met.F.Field.laws c.args.f.now).ring in
    let image = c.args.image.now in
    let p = c.args.p in
    let len = read_len image p c.len-then-len.result c.index-image-p-then-len.result (omega (arith, c.requires.first, c.requires.within)) c.len-then-len.ensures in
    let here : (length (row_at image p) - 1) % c.args.w ≡ (c.len-then-len.result - 1) % c.args.w = ap (λ u. (u - 1) % c.args.w) (sym len) in
    let low = mod-lt (c.len-then-len.result - 1) {m = c.args.w} (omega (arith, c.requires.width)) in
    unsettled_swapped c.args.w c.args.i p c.args.slot.now image c.requires.unsettled ((c.len-then-len.result - 1) % c.args.w) (omega (arith, low, c.requires.unsettled.len)) c.requires.first c.requires.nonzero here
    c.args.q c.turn.new.image (ap (slot_of c.args.slot.now) (sym here) ∙ c.requires.named) c.requires.apart
    (λ k ne. rest_row r ring c.args.q p _ c.in_ok-turn.ensures.turned.factor image c.turn.new.image c.requires.images c.in_ok-turn.ensures.images c.in_ok-turn.ensures.turned.images k ne)

pub returns-in_ok-turn-clause-turned : goal.returns-in_ok-turn-clause-turned
returns-in_ok-turn-clause-turned g c =
    turn c.args.q c.args.p c.args.image.now c.args.left.now c.args.columns.now c.turn.new.image c.turn.new.left c.turn.new.columns (omega (arith, c.requires.second, c.requires.same_len)) (omega (arith, c.requires.first, c.requires.within, c.requires.same_len))
    (λ e. c.requires.apart (sym e)) none c.in_ok-turn.ensures.turned

pub returns-in_ok-turn-clause-fewer : goal.returns-in_ok-turn-clause-fewer
returns-in_ok-turn-clause-fewer g c =
    fewer_by_turn (g.F.Field.ops c.args.f.now) (g.met.F.Field.laws c.args.f.now).ring c.args.w (length c.args.left.now) c.args.q c.args.p c.args.image.now c.args.left.now c.args.columns.now c.turn.new.image c.turn.new.left c.turn.new.columns
    c.requires.images c.in_ok-turn.ensures.images c.requires.second c.in_ok-turn.ensures.turned c.in_ok-turn.ensures.shorter

pub returns-in_ok-turn-2-clause-unsettled : goal.returns-in_ok-turn-2-clause-unsettled
returns-in_ok-turn-2-clause-unsettled g c =
    let r = g.F.Field.ops c.args.f.now in
    let ring = (g.met.F.Field.laws c.args.f.now).ring in
    unsettled_kept c.args.w c.args.i c.args.p c.args.slot.now c.args.image.now c.requires.unsettled c.turn-else-len.new.image
    (λ k ne. rest_row r ring c.args.p c.args.q _ c.in_ok-turn-2.ensures.turned.factor c.args.image.now c.turn-else-len.new.image c.requires.images c.in_ok-turn-2.ensures.images c.in_ok-turn-2.ensures.turned.images k ne)

pub returns-in_ok-turn-2-clause-turned : goal.returns-in_ok-turn-2-clause-turned
returns-in_ok-turn-2-clause-turned g c =
    turn c.args.p c.args.q c.args.image.now c.args.left.now c.args.columns.now c.turn-else-len.new.image c.turn-else-len.new.left c.turn-else-len.new.columns (omega (arith, c.requires.first, c.requires.within, c.requires.same_len)) (omega (arith, c.requires.second, c.requires.same_len))
    c.requires.apart none c.in_ok-turn-2.ensures.turned

pub returns-in_ok-turn-2-clause-fewer : goal.returns-in_ok-turn-2-clause-fewer
returns-in_ok-turn-2-clause-fewer g c =
    fewer_by_turn (g.F.Field.ops c.args.f.now) (g.met.F.Field.laws c.args.f.now).ring c.args.w (length c.args.left.now) c.args.p c.args.q c.args.image.now c.args.left.now c.args.columns.now c.turn-else-len.new.image c.turn-else-len.new.left c.turn-else-len.new.columns
    c.requires.images c.in_ok-turn-2.ensures.images (omega (arith, c.requires.first, c.requires.within)) c.in_ok-turn-2.ensures.turned c.in_ok-turn-2.ensures.shorter
