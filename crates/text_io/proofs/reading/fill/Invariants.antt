use Rattle.std.proofs.Common.{◌-◌, length}
use Rattle.text_io.proofs.Pieces.{Filled}
use Rattle.text_io.proofs.reading.fill.Given as goal

abbrev pub invariant-loop-filled : goal.invariant-loop-filled
invariant-loop-filled g l = Filled g.I.Source.coming g.I.Source.faults g.I.Source.calls l.initial.source l.source l.buffer l.filled

abbrev pub decreases-loop-filled : goal.decreases-loop-filled
decreases-loop-filled g l = length l.buffer - l.filled
