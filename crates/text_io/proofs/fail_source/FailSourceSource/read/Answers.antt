use Rattle.std.proofs.lemmas.Grind.{common_steps}
use Rattle.std.proofs.Common.{arith, ◌≡◌, take, drop, Some, ap, ◌∙◌}
use Rattle.text_io.proofs.Pieces.{given_and_rest}
use Rattle.text_io.proofs.fail_source.FailSourceSource.read.Goals as goal

pub returns-clause-taken : goal.returns-clause-taken
returns-clause-taken c =
    let front : take c.give-count.result c.give-count.new.into ≡ take c.give-count.result (drop c.self.inside.at c.self.inside.bytes.items) = grind (arith, common_steps) in
    ap Some (given_and_rest c.self.inside.at c.give-count.result c.self.inside.bytes.items c.give-count.new.into front ∙ ap (λ s. s.coming) c.self.view_is)
