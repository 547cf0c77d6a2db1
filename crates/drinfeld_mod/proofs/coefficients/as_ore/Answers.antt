use Rattle.std.proofs.Common.{◌≡◌, IfOk, subst}
use Rattle.std.proofs.lemmas.Bool.{and_parts}
use Rattle.ring_core.proofs.Coefficients.{trim-trimmed}
use Rattle.drinfeld_mod.proofs.coefficients.as_ore.Goals as goal

pub returns-clause-value : goal.returns-clause-value
returns-clause-value g c =
    let r = g.K.Field.ops c.args.field.now in
    let made = rw (c.new.ensures, c.as_slice.ensures) at c.make.ensures.value in
    subst (λ u. IfOk c.make.result (λ v. v ≡ u)) (trim-trimmed r c.args.phi.now (and_parts _ _ c.requires.canonical).1) made
