use Rattle.residue_field.proofs.TopFrob.{top_accepted}
use Rattle.residue_field.proofs.laws.powers_tell_fields.Goals as goal

pub returns : goal.returns
returns c =
    λ base n modulus fits elems count top.
    top_accepted base n modulus (record { fits = fits; elems = elems; count = count; top = top })
