use Rattle.std.proofs.Common.{◌≡◌, ◌<◌, true, ap, ◌∙◌, arith}
use Rattle.ring_core.specs.Coeffs.{are_elems}
use Rattle.residue_field.specs.Prime.{is_listed, prime_ops}
use Rattle.residue_field.proofs.Listed.{listed_large}
use Rattle.field_tower.proofs.BaseTables.{reduced_in}
use Rattle.field_tower.proofs.base.BaseField.make.Goals as goal

pub make_reduced-requires-clause-elems : goal.make_reduced-requires-clause-elems
make_reduced-requires-clause-elems c =
    let p = c.args.p in
    let listed : is_listed p ≡ true = cc in
    let large = listed_large p listed in
    let positive : 0 < p = omega arith in
    ap (are_elems (prime_ops p)) c.in-Ok.ensures ∙ reduced_in p positive c.args.modulus.now
