use Rattle.std.proofs.Common.{◌-◌, ℕ, length, sym, ap₂, subst, ◌∙◌, arith}
use Rattle.ring_core.specs.Ring.{IsElem}
use Rattle.ring_core.specs.Coeffs.{coeff}
use Rattle.field_tower.specs.steps.Places.{stored, stored_ops}
use Rattle.field_tower.proofs.FilledPlaces.{filled_none, filled_more, filled_all}
use Rattle.field_tower.proofs.Stored.{stored_ring}
use Rattle.field_tower.proofs.StoredValues.{residue_elems}
use Rattle.field_tower.proofs.residue_ring.ResiduesAlgebra.add.Goals as goal

pub loop-i-init : goal.loop-i-init
loop-i-init g c = filled_none (g.F.Field.ops c.args.self.now.field.now) _ c.zeros-places.result (omega arith) c.zeros-places.ensures.values

pub coeff_at-requires : goal.coeff_at-requires
coeff_at-requires g c =
    let field = g.met.F.Field.laws c.args.self.now.field.now in
    residue_elems (g.F.Field.ops c.args.self.now.field.now) field.ring field.mul_comm c.args.self.now.modulus.now c.args.self.now.monic c.args.a c.requires.left

pub coeff_at-requires-in-loop-i : goal.coeff_at-requires-in-loop-i
coeff_at-requires-in-loop-i g c =
    let field = g.met.F.Field.laws c.args.self.now.field.now in
    residue_elems (g.F.Field.ops c.args.self.now.field.now) field.ring field.mul_comm c.args.self.now.modulus.now c.args.self.now.monic c.args.b c.requires.right

pub loop-i-preserved : goal.loop-i-preserved
loop-i-preserved g c =
    let r = g.F.Field.ops c.args.self.now.field.now in
    let room = c.args.self.now.monic.room in
    filled_more r (λ (j : ℕ). r.add (coeff r c.args.a.0 j) (coeff r c.args.b.0 j)) c.loop-i.places c.loop-i.i _ (omega arith) c.loop-i.invariant
    (c.add.ensures.value ∙ ap₂ r.add c.coeff_at.ensures.value c.coeff_at-in-loop-i.ensures.value)

pub returns-clause-value : goal.returns-clause-value
unfolding stored_ops stored
returns-clause-value g c =
    let degree = c.args.self.now.monic.degree in
    filled_all (g.F.Field.ops c.args.self.now.field.now) _ c.loop-i.places c.loop-i.i (length c.args.self.now.modulus.now - 2) (omega arith) c.loop-i.invariant

pub returns-clause-elem : goal.returns-clause-elem
returns-clause-elem g c =
    let r = g.F.Field.ops c.args.self.now.field.now in
    let field = g.met.F.Field.laws c.args.self.now.field.now in
    let ring = stored_ring r field.ring c.args.self.now.modulus.now c.args.self.now.monic field.mul_comm in
    subst (IsElem (stored_ops r c.args.self.now.modulus.now)) (sym (returns-clause-value g c)) (ring.closed.add_in _ _ c.requires.left c.requires.right)
