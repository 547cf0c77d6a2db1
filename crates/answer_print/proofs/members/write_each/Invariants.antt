use Rattle.std.proofs.Common.{◌≡◌, ◌++◌, [], take}
use Rattle.std.specs.List.{flat_map}
use Rattle.answer.specs.Elements.{twisted_text}
use Rattle.answer.specs.Texts.{line}
use Rattle.answer_print.proofs.members.write_each.Given as goal

abbrev pub invariant-loop-u : goal.invariant-loop-u
invariant-loop-u l = record { text : l.into.items ≡ l.fn.into.items ++ flat_map (λ u. line [] (twisted_text l.top u)) (take l.u-index l.list) }
