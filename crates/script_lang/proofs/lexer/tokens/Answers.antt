use Rattle.std.proofs.Common.{rules}
use Rattle.script_lang.proofs.Lexing.{space_read, token_read, token_refused, all_read}
use Rattle.script_lang.proofs.lexer.tokens.Goals as goal

pub loop-byte-preserved-then-is_space : goal.loop-byte-preserved-then-is_space
loop-byte-preserved-then-is_space c =
    space_read c.args.content.now c.loop-byte.rest.now c.in-Some.more.now c.in-Some.byte c.loop-byte.list.items c.loop-byte.invariant (search rules) (search rules)

pub returns-in_default-front-clause-refused : goal.returns-in_default-front-clause-refused
returns-in_default-front-clause-refused c =
    token_refused c.args.content.now c.loop-byte.rest.now c.in-Some.more.now c.in-Some.byte c.loop-byte.list.items c.loop-byte.invariant (search rules) (search rules) (search rules)

pub loop-byte-preserved : goal.loop-byte-preserved
loop-byte-preserved c =
    token_read c.args.content.now c.loop-byte.rest.now c.in-Some-front.after.now c.in-Some-front.token c.loop-byte.list.items c.push.new.self.items c.loop-byte.invariant (search rules) (search rules)

pub returns-clause-found : goal.returns-clause-found
returns-clause-found c = all_read c.args.content.now c.loop-byte.rest.now c.loop-byte.list.items c.loop-byte.invariant (search rules)
