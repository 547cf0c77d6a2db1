use Rattle.std.proofs.Common.{◌-◌, length, sym, ap, subst, ◌∙◌, MatchOption, IfOk}
use Rattle.ring_core.specs.Coeffs.{first_values}
use Rattle.finite_ring.specs.Finite.{HasNoPair}
use Rattle.residue_field.specs.Base.{ops_of}
use Rattle.field_tower.specs.Pairs.{IsPair}
use Rattle.field_tower.specs.steps.LetterPowers.{letter_image}
use Rattle.field_tower.proofs.ConstantValues.{base_codes}
use Rattle.field_tower.proofs.TopValues.{stored-top}
use Rattle.field_tower.proofs.UnitLetters.{units_from}
use Rattle.field_tower.proofs.tower.top_pair.Goals as goal

pub find_pair-requires-clause-constants : goal.find_pair-requires-clause-constants
find_pair-requires-clause-constants c = base_codes c.args.base.now c.q.result c.q.ensures.value c.q.ensures.small

pub find_pair-requires-clause-powers : goal.find_pair-requires-clause-powers
find_pair-requires-clause-powers c =
    let r = ops_of c.args.base.now in
    let modulus = c.args.modulus.now in
    units_from r c.q.result modulus c.requires.monic c.args.powers.now
    (c.requires.powers ∙ ap (λ q. first_values (length modulus - 1) (letter_image r q modulus)) (sym c.q.ensures.value))

pub returns : goal.returns
returns c =
    subst (λ t. IfOk c.find_pair.result (λ o. MatchOption o (HasNoPair t) (λ pair. IsPair t pair.0 pair.1)))
    (stored-top c.args.base.now c.args.n c.args.modulus.now c.requires.degree) c.find_pair.ensures
