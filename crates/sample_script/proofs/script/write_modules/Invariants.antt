use Rattle.std.proofs.Common.{◌≡◌, ◌++◌, ◌-◌, ◌*◌, ◌≤◌}
use Rattle.sample_script.specs.Sample.{module_line, value_at}
use Rattle.sample_script.proofs.Twelve.{up_to}
use Rattle.sample_script.proofs.script.write_modules.Given as goal

abbrev pub invariant-loop-k : goal.invariant-loop-k
invariant-loop-k l = record {
  start : 1 ≤ l.k;
  text : l.into.items ≡ l.fn.into.items ++ up_to (module_line l.n) (l.k - 1);
  draws : l.draws.value ≡ value_at l.n (2 * (l.k - 1));
}
