use Rattle.drinfeld_mod.proofs.image.image_of.Goals as goal

pub returns-clause-value : goal.returns-clause-value
returns-clause-value g c = rw (c.in_ok-letter.ensures.value, c.as_slice.ensures) at c.image_at.ensures.value
