use Rattle.std.proofs.Common.{rules}
use Rattle.text_io.proofs.Pieces.{sent_more}
use Rattle.text_io.proofs.writing.write_whole.Goals as goal

pub loop-sent-preserved : goal.loop-sent-preserved
loop-sent-preserved g c = record {
  within = search rules;
  written_so_far = sent_more c.loop-sent.sent _ c.args.bytes.now _ _ _ c.loop-sent.invariant.written_so_far c.in_ok-sent.ensures.appended;
  sound = search rules;
  later = search rules;
  few = search rules;
}
