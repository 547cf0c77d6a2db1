use Rattle.std.proofs.Common.{◌≡◌, ◌++◌, ◌-◌, ◌≤◌}
use Rattle.sample_script.specs.Sample.{count_line}
use Rattle.sample_script.proofs.Twelve.{up_to}
use Rattle.sample_script.proofs.script.write_counts.Given as goal

abbrev pub invariant-loop-k : goal.invariant-loop-k
invariant-loop-k l = record {
  start : 1 ≤ l.k;
  text : l.into.items ≡ l.fn.into.items ++ up_to count_line (l.k - 1);
}
