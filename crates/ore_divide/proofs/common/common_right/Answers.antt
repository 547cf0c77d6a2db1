use Rattle.std.proofs.Common.{◌≡◌, [], length, eqb-true, sym, ◌∙◌}
use Rattle.std.proofs.lemmas.List.{nil_from_length}
use Rattle.ore_divide.proofs.Finish.{common_of_left, common_of_right}
use Rattle.ore_divide.proofs.common.common_right.Goals as goal

pub returns-in_default : goal.returns-in_default
returns-in_default g c =
    let k = c.args.k.now in
    common_of_left _ _ _ _ (g.met.K.Field.laws k) (g.met.K.FrobField.frob_laws k) c.args.a.now c.args.b.now _ _ _
    c.requires.left c.requires.right (sym c.as_slice.ensures ∙ c.in_default.ensures) c.in_ok-d.ensures c.in_ok-w.ensures.value

pub returns-then-is_empty : goal.returns-then-is_empty
returns-then-is_empty g c =
    let k = c.args.k.now in
    let short : length c.as_slice-2.result.now ≡ 0 = eqb-true _ _ (sym c.is_empty.ensures ∙ c.if-is_empty.true) in
    let none : c.args.a.now ≡ [] = sym c.as_slice-2.ensures ∙ nil_from_length c.as_slice-2.result.now short in
    common_of_right _ _ _ _ (g.met.K.Field.laws k) (g.met.K.FrobField.frob_laws k) c.args.a.now c.args.b.now _ _ _
    c.requires.left c.requires.right none c.in_ok-d-2.ensures c.in_ok-s.ensures.value
