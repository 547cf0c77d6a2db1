use Rattle.std.proofs.Common.{◌≡◌, true, sym, subst, ◌∙◌}
use Rattle.ring_core.specs.Ring.{IsElem}
use Rattle.ring_core.specs.Coeffs.{are_elems}
use Rattle.residue_field.specs.Prime.{prime_ops}
use Rattle.field_tower.proofs.RowValues.{prime_elem, prime_elems, prime_written}
use Rattle.field_tower.proofs.row_sums.add_multiple.Goals as goal

pub add_modulo-requires-clause-out : goal.add_modulo-requires-clause-out
add_modulo-requires-clause-out c =
    subst (λ p. are_elems (prime_ops p) c.args.out.now ≡ true) (sym c.p-p.ensures) (prime_elems c.args.field.now (sym c.s.ensures ∙ c.if-s-eq1.true) _ c.requires.out)

pub add_modulo-requires-clause-factor : goal.add_modulo-requires-clause-factor
add_modulo-requires-clause-factor c =
    subst (λ p. IsElem (prime_ops p) c.args.c) (sym c.p-p.ensures) (prime_elem c.args.field.now (sym c.s.ensures ∙ c.if-s-eq1.true) _ c.requires.factor)

pub add_modulo-requires-clause-row : goal.add_modulo-requires-clause-row
add_modulo-requires-clause-row c =
    subst (λ p. are_elems (prime_ops p) c.args.row.now ≡ true) (sym c.p-p.ensures) (prime_elems c.args.field.now (sym c.s.ensures ∙ c.if-s-eq1.true) _ c.requires.row)

pub returns-then-s-eq1 : goal.returns-then-s-eq1
returns-then-s-eq1 c =
    prime_written c.args.field.now (sym c.s.ensures ∙ c.if-s-eq1.true) c.args.i c.args.c c.args.row.now c.args.out.now c.add_modulo.new.out c.p-p.result c.p-p.ensures
    c.requires.factor c.requires.row c.requires.out c.add_modulo.ensures
