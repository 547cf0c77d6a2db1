use Rattle.std.proofs.Common.{◌≡◌, length, rules, subst, arith}
use Rattle.text_io.specs.Bytes.{Rose}
use Rattle.session.specs.Of.{state_of}
use Rattle.drinfeld_cli.specs.Runs.{piece_of, HasRun}
use Rattle.drinfeld_cli.proofs.Ran.{read_at, one_more, one_cut}
use Rattle.drinfeld_cli.proofs.program.answer_all.Goals as goal

pub loop-statement-preserved : goal.loop-statement-preserved
loop-statement-preserved g c = record {
  run = one_more (piece_of c.args.echo c.args.bytes.now) c.args.list.now c.loop-statement.statement-index c.statement-item.result _ _ _ _ _ c.loop-statement.invariant.run
      (read_at _ _ _ c.loop-statement-test.true c.statement-item.is) c.in-Ok.ensures.says;
  sound = search rules;
}

pub returns-in-Err-WriteFault-clause-ended : goal.returns-in-Err-WriteFault-clause-ended
returns-in-Err-WriteFault-clause-ended g c =
    let says = rw c.in-Err-WriteFault.field-0-is at c.in-Err-WriteFault.ensures.says in (
      subst (λ n. Rose n (g.O.Sink.faults c.answer_one.new.output)) c.loop-statement.invariant.sound says.0,
      one_cut (piece_of c.args.echo c.args.bytes.now) c.args.list.now c.loop-statement.statement-index c.statement-item.result _ _ _ _ _ c.loop-statement.invariant.run
          (read_at _ _ _ c.loop-statement-test.true c.statement-item.is) says.1,
    )

pub returns-clause-ended : goal.returns-clause-ended
returns-clause-ended g c =
    let index = c.loop-statement.statement-index in
    let state = state_of c.loop-statement.session in
    let all : index ≡ length c.args.list.now = omega (arith, c.loop-statement-test.false, c.loop-statement.auto.statement-index-end) in
    (state, subst (λ k. HasRun (piece_of c.args.echo c.args.bytes.now) c.args.list.now k state (g.O.Sink.written c.args.output.now) (g.O.Sink.written c.loop-statement.output)) all c.loop-statement.invariant.run)
