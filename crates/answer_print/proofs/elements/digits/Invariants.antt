use Rattle.std.proofs.Common.{◌≡◌, ◌<◌, ◌+◌, ℕ}
use Rattle.ring_core.specs.Coeffs.{first_values}
use Rattle.residue_field.specs.Digits.{digit}
use Rattle.answer_print.proofs.elements.digits.Given as goal

abbrev pub invariant-loop : goal.invariant-loop
invariant-loop l = record {
  small : l.rest < 65536;
  value : l.digits.items ≡ first_values l.counter (digit l.p l.c);
  rest : (i : ℕ) → digit l.p l.rest i ≡ digit l.p l.c (l.counter + i);
}
