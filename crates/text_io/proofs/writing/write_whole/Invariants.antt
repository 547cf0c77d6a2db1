use Rattle.std.proofs.Common.{◌-◌, length}
use Rattle.text_io.proofs.Pieces.{Sent}
use Rattle.text_io.proofs.writing.write_whole.Given as goal

abbrev pub invariant-loop-sent : goal.invariant-loop-sent
invariant-loop-sent g l = Sent g.O.Sink.written g.O.Sink.faults g.O.Sink.calls l.initial.sink l.sink l.bytes l.sent

abbrev pub decreases-loop-sent : goal.decreases-loop-sent
decreases-loop-sent g l = length l.bytes - l.sent
