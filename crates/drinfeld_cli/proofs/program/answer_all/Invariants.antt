use Rattle.std.proofs.Common.{◌≡◌}
use Rattle.session.specs.Of.{state_of}
use Rattle.drinfeld_cli.specs.Runs.{piece_of, HasRun}
use Rattle.drinfeld_cli.proofs.program.answer_all.Given as goal

abbrev pub invariant-loop-statement : goal.invariant-loop-statement
invariant-loop-statement g l = record {
  run : HasRun (piece_of l.echo l.bytes) l.list l.statement-index (state_of l.session) (g.O.Sink.written l.fn.output) (g.O.Sink.written l.output);
  sound : g.O.Sink.faults l.output ≡ g.O.Sink.faults l.fn.output;
}
