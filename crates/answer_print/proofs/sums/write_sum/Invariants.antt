use Rattle.std.proofs.Common.{◌≡◌, ◌++◌}
use Rattle.answer.specs.Sums.{first_terms, joined}
use Rattle.answer_print.proofs.Joined.{is_none}
use Rattle.answer_print.proofs.sums.write_sum.Given as goal

abbrev pub invariant-loop-i : goal.invariant-loop-i
invariant-loop-i g l =
    let terms = first_terms (g.P.Printer.printer l.printer) l.letter l.falls l.list l.i in
    record {
      text : l.into.items ≡ l.fn.into.items ++ joined l.separator terms;
      empty : l.empty ≡ is_none terms;
    }
