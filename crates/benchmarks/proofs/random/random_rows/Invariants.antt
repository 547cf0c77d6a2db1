use Rattle.std.proofs.Common.{◌≡◌, true}
use Rattle.linear_algebra.specs.Linear.{are_rows}
use Rattle.residue_field.specs.Base.{ops_of}
use Rattle.benchmarks.proofs.random.random_rows.Given as goal

abbrev pub invariant-loop : goal.invariant-loop
invariant-loop l = are_rows (ops_of l.field) l.rows.width l.rows.rows ≡ true
