use Rattle.command_words.specs.Words.{options_of, texts_of}
use Rattle.drinfeld_cli.proofs.Completeness.{complete}
use Rattle.drinfeld_cli.proofs.CompleteStop.{complete_stop}
use Rattle.drinfeld_cli.proofs.Memory.{over_bytes}
use Rattle.drinfeld_cli.proofs.program.run_bytes.Goals as goal

pub returns-clause-says : goal.returns-clause-says
returns-clause-says c = λ taken. (_, over_bytes (options_of (texts_of c.args.words.now)) _ c.args.bytes.items _ _ _ _ c.run.result c.new-input.ensures (c.run.ensures.says taken))

pub returns-clause-complete : goal.returns-clause-complete
returns-clause-complete c = λ taken.
    complete (options_of (texts_of c.args.words.now)) _ c.run.result
    (over_bytes (options_of (texts_of c.args.words.now)) _ c.args.bytes.items _ _ _ _ c.run.result c.new-input.ensures (c.run.ensures.says taken))

pub returns-clause-stopped : goal.returns-clause-stopped
returns-clause-stopped c = λ taken.
    complete_stop (options_of (texts_of c.args.words.now)) _ c.run.result
    (over_bytes (options_of (texts_of c.args.words.now)) _ c.args.bytes.items _ _ _ _ c.run.result c.new-input.ensures (c.run.ensures.says taken))
