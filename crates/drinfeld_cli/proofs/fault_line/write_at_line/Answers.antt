use Rattle.std.proofs.Common.{◌≡◌, ◌++◌, take, codes, decimal, ◌∙◌, ap}
use Rattle.text_io.specs.Bytes.{with_back}
use Rattle.drinfeld_cli.proofs.FaultLine.{first_front, second_front}
use Rattle.drinfeld_cli.proofs.fault_line.write_at_line.Goals as goal

pub returns-in_err-write_both-clause-prefix : goal.returns-in_err-write_both-clause-prefix
returns-in_err-write_both-clause-prefix g c =
    let digits : c.as_bytes.result.now ≡ decimal c.args.line = c.as_bytes.ensures.value ∙ c.format.ensures.text in
    let front = c.write_both.ensures.prefix in
    let old = g.E.Sink.written c.args.errors.now in
    first_front _ _ (codes "line " ++ decimal c.args.line) (codes ": " ++ c.args.cause.now) front.0
    (front.1 ∙ ap (λ d. with_back old (take front.0 (codes "line " ++ d))) digits)

pub returns-clause-prefix : goal.returns-clause-prefix
returns-clause-prefix g c =
    let digits : c.as_bytes.result.now ≡ decimal c.args.line = c.as_bytes.ensures.value ∙ c.format.ensures.text in
    let front = c.write_both-2.ensures.prefix in
    let old = g.E.Sink.written c.args.errors.now in
    second_front _ _ _ (codes "line " ++ decimal c.args.line) (codes ": " ++ c.args.cause.now) front.0
    (c.in_ok-write_both.ensures.ok ∙ ap (λ d. with_back old (codes "line " ++ d)) digits) front.1
