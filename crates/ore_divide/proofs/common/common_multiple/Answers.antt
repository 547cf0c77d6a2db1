use Rattle.std.proofs.Common.{◌≡◌, length, eqb-true, sym, ◌∙◌}
use Rattle.std.proofs.lemmas.List.{nil_from_length}
use Rattle.ore_divide.proofs.Finish.{no_multiple_is}
use Rattle.ore_divide.proofs.common.common_multiple.Goals as goal

pub returns-then-is_empty : goal.returns-then-is_empty
returns-then-is_empty g c =
    let k = c.args.k.now in
    let short : length c.as_slice.result.now ≡ 0 = eqb-true _ _ (sym c.is_empty.ensures ∙ c.if-is_empty.true) in
    let zero = c.in_ok-no_multiple.ensures in
    no_multiple_is _ _ _ _ (g.met.K.Field.laws k) (g.met.K.FrobField.frob_laws k) c.args.a.now c.args.b.now _ _ _
    c.requires.left c.requires.right (λ na nb. na (sym c.as_slice.ensures ∙ nil_from_length c.as_slice.result.now short)) zero.0 zero.1 zero.2

pub returns-in_default : goal.returns-in_default
returns-in_default g c =
    let k = c.args.k.now in
    let zero = c.in_ok-no_multiple-2.ensures in
    no_multiple_is _ _ _ _ (g.met.K.Field.laws k) (g.met.K.FrobField.frob_laws k) c.args.a.now c.args.b.now _ _ _
    c.requires.left c.requires.right (λ na nb. nb (sym c.as_slice-2.ensures ∙ c.in_default.ensures)) zero.0 zero.1 zero.2
