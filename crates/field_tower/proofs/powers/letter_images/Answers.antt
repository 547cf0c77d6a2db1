use Rattle.ring_core.proofs.Coefficients.{values_more}
use Rattle.residue_field.specs.Base.{ops_of, size_of}
use Rattle.field_tower.specs.steps.Places.{stored_ops}
use Rattle.field_tower.specs.steps.LetterPowers.{letter_image}
use Rattle.field_tower.proofs.powers.letter_images.Goals as goal

pub loop-j-preserved : goal.loop-j-preserved
loop-j-preserved c =
    let base = c.args.base.now in
    let modulus = c.args.modulus.now in
    values_more (stored_ops (ops_of base) modulus) c.loop-j.j (letter_image (ops_of base) (size_of base) modulus) _ _ _ c.in_ok-push.ensures.items c.loop-j.invariant c.next_image-image.ensures
