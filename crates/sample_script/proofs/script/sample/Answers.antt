use Rattle.std.proofs.Common.{◌≡◌, ◌<◌, rules, length, sym, subst}
use Rattle.sample_script.specs.Sample.{sample_text}
use Rattle.sample_script.proofs.Short.{sample_short}
use Rattle.sample_script.proofs.script.sample.Goals as goal

pub returns-clause-short : goal.returns-clause-short
unfolding sample_text
returns-clause-short c =
    let text : c.write_counts.new.into.items ≡ sample_text c.args.n = search rules in
    subst (λ t. length t < 2000) (sym text) (sample_short c.args.n)
