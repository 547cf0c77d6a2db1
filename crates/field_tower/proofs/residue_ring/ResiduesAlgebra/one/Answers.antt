use Rattle.field_tower.proofs.residue_ring.ResiduesAlgebra.one.Goals as goal

pub returns-clause-value : goal.returns-clause-value
returns-clause-value g c = c.one.ensures.value c.args.self.now.modulus.now

pub returns-clause-elem : goal.returns-clause-elem
returns-clause-elem g c = c.one.ensures.elem c.args.self.now.modulus.now c.args.self.now.monic
