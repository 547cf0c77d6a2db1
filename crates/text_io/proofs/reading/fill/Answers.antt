use Rattle.std.proofs.Common.{rules, arith}
use Rattle.text_io.proofs.Pieces.{filled_more}
use Rattle.text_io.proofs.reading.fill.Goals as goal

pub loop-filled-preserved : goal.loop-filled-preserved
loop-filled-preserved g c = record {
  within = search rules;
  taken = filled_more c.loop-filled.filled _ c.in-Ok.count c.loop-filled.buffer c.read.new.into _ _ _ c.loop-filled.invariant.within (omega (arith, c.in-Ok.ensures.within)) c.loop-filled.invariant.taken c.in-Ok.ensures.taken;
  told = search rules;
  sound = search rules;
  later = search rules;
  few = search rules;
}
