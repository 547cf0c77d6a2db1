use Rattle.std.proofs.Common.{◌≡◌, ◌∙◌, ◌++◌, arith, ap}
use Rattle.sample_script.specs.Sample.{module_line}
use Rattle.sample_script.proofs.Twelve.{one_line, all_lines, drawn, drawn_twice}
use Rattle.sample_script.proofs.script.write_modules.Goals as goal

pub loop-k-preserved : goal.loop-k-preserved
loop-k-preserved c =
    let start = c.loop-k.invariant.start in
    let line = drawn c.args.n c.loop-k.k _ start c.loop-k.invariant.draws in
    record {
      start = omega (arith, start);
      text = one_line (module_line c.args.n) _ _ _ c.loop-k.k start c.loop-k.invariant.text (c.in_ok-write_module.ensures.text ∙ ap (λ t. c.loop-k.into.items ++ t) line);
      draws = drawn_twice c.args.n c.loop-k.k _ _ start c.loop-k.invariant.draws c.in_ok-write_module.ensures.draws;
    }

pub returns : goal.returns
returns c =
    let end : c.loop-k.k ≡ 13 = omega (arith, c.loop-k-test.false, c.loop-k.auto.k-end) in
    all_lines (module_line c.args.n) _ _ c.loop-k.k end c.loop-k.invariant.text
