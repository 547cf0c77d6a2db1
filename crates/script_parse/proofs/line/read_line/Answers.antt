use Rattle.std.proofs.Common.{rules}
use Rattle.script_lang.specs.Lines.{content}
use Rattle.script_lang.specs.Tokens.{IsTokens}
use Rattle.script_statement.specs.Statements.{IsVerb, IsOperands}
use Rattle.script_parse.specs.Version.{limits_of}
use Rattle.script_parse.specs.Says.{LineSays}
use Rattle.script_parse.proofs.Caps.{no_tokens_no_form, no_verb_no_form, no_operands_no_form, size_said, form_said}
use Rattle.script_parse.proofs.line.read_line.Goals as goal

pub returns-then-is_blank : goal.returns-then-is_blank
returns-then-is_blank c = record { says = LineSays.blank (search rules) }

pub returns-in_default : goal.returns-in_default
returns-in_default c = record { says = LineSays.no_statement (search rules) (no_tokens_no_form c.args.line.now (search rules)) }

pub returns-in_default-read_verb : goal.returns-in_default-read_verb
returns-in_default-read_verb c =
    let x : IsTokens (content c.args.line.now) c.in-Some.list.items = search rules in
    record { says = LineSays.no_statement (search rules) (no_verb_no_form c.args.line.now c.in-Some.list.items x (search rules)) }

pub returns-in_default-read : goal.returns-in_default-read
returns-in_default-read c =
    let x : IsTokens (content c.args.line.now) c.in-Some.list.items = search rules in
    let w : IsVerb c.in-Some.list.items c.in-Some-read_verb.verb c.in-Some-read_verb.operands.now = search rules in
    record { says = LineSays.no_statement (search rules) (no_operands_no_form c.args.line.now c.in-Some.list.items c.in-Some-read_verb.operands.now c.in-Some-read_verb.verb x w (search rules)) }

pub returns-in-Some-line_limit : goal.returns-in-Some-line_limit
returns-in-Some-line_limit c =
    let x : IsTokens (content c.args.line.now) c.in-Some.list.items = search rules in
    let w : IsVerb c.in-Some.list.items c.in-Some-read_verb.verb c.in-Some-read_verb.operands.now = search rules in
    let y : IsOperands c.in-Some-read_verb.verb c.in-Some-read_verb.operands.now c.in-Some-read.form = search rules in
    record { says = size_said (limits_of c.args.limits.now) (search rules) c.args.statements c.args.names c.args.line.now c.in-Some.list.items c.in-Some-read_verb.operands.now c.in-Some-read_verb.verb c.in-Some-read.form c.in-Some-line_limit.kind (search rules) x w y (search rules) }

pub returns : goal.returns
returns c =
    let x : IsTokens (content c.args.line.now) c.in-Some.list.items = search rules in
    let w : IsVerb c.in-Some.list.items c.in-Some-read_verb.verb c.in-Some-read_verb.operands.now = search rules in
    let y : IsOperands c.in-Some-read_verb.verb c.in-Some-read_verb.operands.now c.in-Some-read.form = search rules in
    record { says = form_said (limits_of c.args.limits.now) (search rules) c.args.statements c.args.names c.args.line.now c.in-Some.list.items c.in-Some-read_verb.operands.now c.in-Some-read_verb.verb c.in-Some-read.form c.gives_name-named.result (search rules) x w y (search rules) (search rules) }
