use Rattle.std.proofs.Common.{◌≡◌, ◌++◌, ◌∷◌, [], rules}
use Rattle.script_lang.specs.declared.lexer.Sign.TheVariants.{Star}
use Rattle.script_lang.specs.declared.lexer.Token.TheVariants as token
use Rattle.script_lang.specs.Grammar.{IsFactor, IsProduct, term_of, term_sign}
use Rattle.script_lang.proofs.Reading.{factors_more, factors_refused, terms_more, terms_refused}
use Rattle.script_lang.proofs.reader.+reader.Goals as goal

pub read_product-returns-in_default-read-clause-refused : goal.read_product-returns-in_default-read-clause-refused
read_product-returns-in_default-read-clause-refused t c = λ r fs n x b.
    factors_refused _ _ _ _ r _ fs n c.loop-power.invariant (search rules) (search rules) x b

pub read_product-loop-power-preserved : goal.read_product-loop-power-preserved
read_product-loop-power-preserved t c =
    let after : c.in-Some-read.after.now ≡ token.Sign Star ∷ c.in-Some-after_sign.more.now = search rules in
    let all : c.push.new.self ≡ c.loop-power.factors ++ c.in-Some-read.front ∷ [] = search rules in
    let x : IsFactor c.args.kind c.args.depth c.loop-power.rest.now c.in-Some-read.after.now c.in-Some-read.front = search rules in
    rw all (factors_more _ _ _ _ _ _ _ c.loop-power.invariant (rw after at x) (search rules))

pub read_sum-returns-in_default-clause-refused : goal.read_sum-returns-in_default-clause-refused
read_sum-returns-in_default-clause-refused t c = λ r v x b. terms_refused _ _ _ _ _ _ r _ v c.loop-terms.invariant (search rules) x b

pub read_sum-loop-terms-preserved : goal.read_sum-loop-terms-preserved
read_sum-loop-terms-preserved t c =
    let after : c.in-Some.after.now ≡ token.Sign (term_sign c.in-Some-after_term_sign.next) ∷ c.in-Some-after_term_sign.more.now = search rules in
    let all : c.push.new.self ≡ c.loop-terms.terms ++ term_of c.loop-terms.minus c.in-Some.factors c.in-Some.power ∷ [] = search rules in
    let x : IsProduct c.args.kind c.args.depth c.loop-terms.rest.now c.in-Some.after.now c.in-Some.factors c.in-Some.power = search rules in
    rw all (terms_more _ _ _ _ _ _ _ _ _ _ _ c.loop-terms.invariant (rw after at x) (search rules))
