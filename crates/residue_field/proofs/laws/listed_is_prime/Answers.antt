use Rattle.residue_field.proofs.Listed.{prime_no_pair}
use Rattle.residue_field.proofs.laws.listed_is_prime.Goals as goal

pub returns : goal.returns
returns c = prime_no_pair c.args.p c.requires
