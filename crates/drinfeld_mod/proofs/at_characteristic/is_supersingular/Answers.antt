use Rattle.std.proofs.Common.{sym, ◌∙◌, eq-eqb}
use Rattle.std.proofs.lemmas.Bool.{eqb-true}
use Rattle.drinfeld_mod.proofs.Lowest.{one_height}
use Rattle.drinfeld_mod.proofs.at_characteristic.is_supersingular.Goals as goal

pub returns : goal.returns
returns g c =
    let k = c.args.field.now in
    let h = c.in_ok-h.h in
    let is = c.in_ok-h.ensures.0 in (
      λ yes. rw (eqb-true h c.rank.result yes ∙ c.rank.ensures) at is,
      λ top.
          eq-eqb h c.rank.result
          (one_height _ _ _ _ _ (g.met.K.Field.laws k) (g.met.K.Base.Field.laws (g.K.FrobField.base_of k)) (g.met.K.FrobField.frob_laws k) _ c.requires h _ is top
          ∙ sym c.rank.ensures),
    )
