use Rattle.kept_lists.specs.Pairs.{pairs_of}
use Rattle.statement_work.proofs.Keeping.{plain_form, plain_keeps, leaves_same, plain_count}
use Rattle.statement_work.proofs.work.work.Goals as goal

pub plain_work-requires-clause-plain : goal.plain_work-requires-clause-plain
plain_work-requires-clause-plain c = plain_form c.args.form.now c.in_default.not-Isogenous c.in_default.not-Full c.in_default.not-Fullsize

pub returns-in_default : goal.returns-in_default
returns-in_default c =
    let plain = plain_form c.args.form.now c.in_default.not-Isogenous c.in_default.not-Full c.in_default.not-Fullsize in
    let pairs = pairs_of c.args.kept.now in
    record {
      ok = c.plain_work.ensures.ok;
      elem = c.plain_work.ensures.elem;
      stop = c.plain_work.ensures.stop;
      lists = c.requires.lists;
      pairs = plain_keeps c.args.t.now c.args.names.now c.args.form.now pairs c.plain_work.result plain;
      same = leaves_same pairs c.plain_work.result;
      counted = λ h. absurd (plain_count c.args.t.now c.args.names.now c.args.form.now pairs plain h);
    }
