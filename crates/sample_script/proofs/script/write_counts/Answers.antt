use Rattle.std.proofs.Common.{◌≡◌, arith}
use Rattle.sample_script.specs.Sample.{count_line}
use Rattle.sample_script.proofs.Twelve.{one_line, all_lines}
use Rattle.sample_script.proofs.script.write_counts.Goals as goal

pub loop-k-preserved : goal.loop-k-preserved
loop-k-preserved c =
    let start = c.loop-k.invariant.start in
    record {
      start = omega (arith, start);
      text = one_line count_line _ _ _ c.loop-k.k start c.loop-k.invariant.text c.in_ok-write_count.ensures;
    }

pub returns : goal.returns
returns c =
    let end : c.loop-k.k ≡ 13 = omega (arith, c.loop-k-test.false, c.loop-k.auto.k-end) in
    all_lines count_line _ _ c.loop-k.k end c.loop-k.invariant.text
