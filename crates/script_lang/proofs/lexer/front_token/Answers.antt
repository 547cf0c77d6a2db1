use Rattle.std.proofs.Common.{rules}
use Rattle.script_lang.proofs.Lexing.{sign_front, number_front, word_front, no_front, digits_are_digits}
use Rattle.script_lang.proofs.lexer.front_token.Goals as goal

pub returns-in-Some-sign_of-clause-found : goal.returns-in-Some-sign_of-clause-found
returns-in-Some-sign_of-clause-found c = sign_front c.args.bytes.now c.in-Some.more.now c.in-Some.byte c.in-Some-sign_of.sign (search rules) (search rules)

pub number_value-requires : goal.number_value-requires
number_value-requires c = digits_are_digits c.args.bytes.now c.digits_len-end.result (search rules)

pub returns-then-is_ascii_digit-clause-found : goal.returns-then-is_ascii_digit-clause-found
returns-then-is_ascii_digit-clause-found c =
    number_front c.args.bytes.now c.in-Some.more.now c.in-Some.byte c.digits_len-end.result c.number_value.result (search rules) (search rules) (search rules) (search rules)

pub returns-then-is_ascii_alphabetic-clause-found : goal.returns-then-is_ascii_alphabetic-clause-found
returns-then-is_ascii_alphabetic-clause-found c =
    word_front c.args.bytes.now c.in-Some.more.now c.in-Some.byte c.word_len-end.result c.in_ok-token.token (search rules) (search rules) (search rules) (search rules)

pub returns-clause-refused : goal.returns-clause-refused
returns-clause-refused c = no_front c.args.bytes.now c.in-Some.more.now c.in-Some.byte (search rules) (search rules) (search rules) (search rules)
