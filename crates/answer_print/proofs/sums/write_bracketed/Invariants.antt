use Rattle.std.proofs.Common.{◌≡◌, ◌++◌, map, take, codes}
use Rattle.answer.specs.Sums.{joined}
use Rattle.answer_print.proofs.sums.write_bracketed.Given as goal

abbrev pub invariant-loop-i : goal.invariant-loop-i
invariant-loop-i g l =
    let texts = map (g.P.Printer.printer l.printer).text (take l.i l.list) in
    record { text : l.into.items ≡ (l.fn.into.items ++ codes "[") ++ joined (codes ", ") texts }
