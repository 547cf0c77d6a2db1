use Rattle.std.proofs.Common.{◌-◌, ◌%◌, ◌<◌, length, sym, ap, subst, ◌∙◌, arith}
use Rattle.std.proofs.lemmas.List.{get_or_read}
use Rattle.ring_core.specs.Ring.{IsElem}
use Rattle.residue_field.specs.Base.{ops_of, letter_code}
use Rattle.residue_field.proofs.BaseLaws.{letter_code_in}
use Rattle.field_tower.proofs.CodeLetter.{letter_code_low, letter_code_high}
use Rattle.field_tower.proofs.base.BaseField.letter.Goals as goal

pub returns-then-self-eq1-clause-value : goal.returns-then-self-eq1-clause-value
returns-then-self-eq1-clause-value c =
    let s = c.self.inside in
    let some : 0 < length s.modulus.items = let count = s.is_base.count in omega (arith, count) in
    ap (λ x. (s.p - x) % s.p) (get_or_read s.modulus.items 0 c.index.result.now some c.index.ensures 0)
    ∙ letter_code_low (record { p = s.p; s = s.s; modulus = s.modulus.items; is_base = s.is_base }) c.if-self-eq1.true
    ∙ ap letter_code c.self.view_is

pub returns-then-self-eq1-clause-elem : goal.returns-then-self-eq1-clause-elem
returns-then-self-eq1-clause-elem c =
    subst (IsElem (ops_of c.args.self.now)) (sym (returns-then-self-eq1-clause-value c)) (letter_code_in c.args.self.now)

pub returns-else-self-eq1-clause-value : goal.returns-else-self-eq1-clause-value
returns-else-self-eq1-clause-value c =
    let s = c.self.inside in
    let positive = s.is_base.positive in
    let large : 1 < s.s = omega (arith, positive, c.if-self-eq1.false) in
    letter_code_high (record { p = s.p; s = s.s; modulus = s.modulus.items; is_base = s.is_base }) large
    ∙ ap letter_code c.self.view_is

pub returns-else-self-eq1-clause-elem : goal.returns-else-self-eq1-clause-elem
returns-else-self-eq1-clause-elem c =
    subst (IsElem (ops_of c.args.self.now)) (sym (returns-else-self-eq1-clause-value c)) (letter_code_in c.args.self.now)
