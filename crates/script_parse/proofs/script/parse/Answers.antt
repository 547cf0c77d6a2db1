use Rattle.std.proofs.Common.{◌≡◌, ◌+◌, ◌<◌, ◌≤◌, ◌∷◌, length, rules}
use Rattle.script_lang.specs.Lines.{lines}
use Rattle.script_parse.specs.declared.line.Line.TheVariants as line
use Rattle.script_parse.specs.Says.{LineSays}
use Rattle.script_parse.specs.Version.{version_1}
use Rattle.script_parse.proofs.Lines.{so_far_blank_on, so_far_statement_on, syntax_found, size_found, script_read}
use Rattle.script_parse.proofs.VersionFit.{version_1_fit}
use Rattle.script_parse.proofs.Within.{script_within}
use Rattle.script_parse.proofs.script.parse.Goals as goal

pub returns-in-Syntax-clause-fault : goal.returns-in-Syntax-clause-fault
returns-in-Syntax-clause-fault c =
    let x : LineSays version_1 c.loop-line.statements c.loop-line.names c.in-Some.line.now line.Syntax = search rules in
    let e : lines c.loop-line.rest.now ≡ c.in-Some.line.now ∷ lines c.in-Some.more.now = search rules in
    (λ z. syntax_found c.args.bytes.now c.loop-line.rest.now c.in-Some.line.now c.in-Some.more.now c.loop-line.number c.loop-line.at c.loop-line.statements c.loop-line.names c.loop-line.list c.loop-line.invariant e x)

pub returns-in-Size-clause-fault : goal.returns-in-Size-clause-fault
returns-in-Size-clause-fault c =
    let x : LineSays version_1 c.loop-line.statements c.loop-line.names c.in-Some.line.now (line.Size c.in-Size.kind) = search rules in
    let e : lines c.loop-line.rest.now ≡ c.in-Some.line.now ∷ lines c.in-Some.more.now = search rules in
    (λ z. size_found c.args.bytes.now c.loop-line.rest.now c.in-Some.line.now c.in-Some.more.now c.loop-line.number c.loop-line.at c.loop-line.statements c.loop-line.names c.loop-line.list c.in-Size.kind c.loop-line.invariant e x)

pub loop-line-preserved : goal.loop-line-preserved
loop-line-preserved c =
    let x : LineSays version_1 c.loop-line.statements c.loop-line.names c.in-Some.line.now (line.Says c.in-Says.form c.in-Says.named) = search rules in
    let e : lines c.loop-line.rest.now ≡ c.in-Some.line.now ∷ lines c.in-Some.more.now = search rules in
    let k : length c.in-Some.more.now < length c.loop-line.rest.now = search rules in
    let z : length c.args.bytes.now ≤ version_1.script = search rules in
    so_far_statement_on c.args.bytes.now c.loop-line.rest.now c.in-Some.line.now c.in-Some.more.now c.loop-line.number c.loop-line.at c.loop-line.statements c.loop-line.names c.loop-line.list (c.loop-line.at + c.end_of.result) c.in-Says.form c.in-Says.named z c.loop-line.invariant e k x
    (search rules) (search rules) (search rules) (search rules) (search rules) (search rules)

pub loop-line-preserved-in-Blank : goal.loop-line-preserved-in-Blank
loop-line-preserved-in-Blank c =
    let x : LineSays version_1 c.loop-line.statements c.loop-line.names c.in-Some.line.now line.Blank = search rules in
    let e : lines c.loop-line.rest.now ≡ c.in-Some.line.now ∷ lines c.in-Some.more.now = search rules in
    let k : length c.in-Some.more.now < length c.loop-line.rest.now = search rules in
    let z : length c.args.bytes.now ≤ version_1.script = search rules in
    so_far_blank_on c.args.bytes.now c.loop-line.rest.now c.in-Some.line.now c.in-Some.more.now c.loop-line.number c.loop-line.at c.loop-line.statements c.loop-line.names c.loop-line.list z c.loop-line.invariant e k x (search rules) (search rules)

pub returns-clause-found : goal.returns-clause-found
returns-clause-found c =
    script_read c.args.bytes.now c.loop-line.rest.now c.loop-line.number c.loop-line.at c.loop-line.statements c.loop-line.names c.loop-line.list c.loop-line.invariant (search rules)

pub returns-clause-within : goal.returns-clause-within
returns-clause-within c =
    script_within version_1 version_1_fit (script_read c.args.bytes.now c.loop-line.rest.now c.loop-line.number c.loop-line.at c.loop-line.statements c.loop-line.names c.loop-line.list c.loop-line.invariant (search rules))
