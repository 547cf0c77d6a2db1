use Rattle.std.proofs.Common.{length, None, MatchOption, ◌≡◌, ◌-◌, refl, subst}
use Rattle.finite_ring.specs.Finite.{HasNoPair}
use Rattle.field_tower.specs.steps.Kinds.{AreSums, AreProducts}
use Rattle.residue_field.specs.Base.{IsBase, base_ops}
use Rattle.field_tower.specs.Pairs.{IsPair}
use Rattle.field_tower.proofs.BaseTables.{modulus_of, count_of, moved}
use Rattle.field_tower.proofs.base.make_reduced.Goals as goal

pub invariant_of-codes-clause-monic : goal.invariant_of-codes-clause-monic
invariant_of-codes-clause-monic c =
    modulus_of c.args.prime.p c.args.s _ _ _ c.deref.ensures.value c.args.prime.listed c.requires.degree c.requires.count c.requires.small c.requires.members c.requires.elems c.requires.monic

pub invariant_of-codes-clause-count : goal.invariant_of-codes-clause-count
invariant_of-codes-clause-count c = count_of c.args.prime.p c.args.s _ _ _ c.deref.ensures.value c.requires.members c.requires.count

pub invariant_of-result : goal.invariant_of-result
invariant_of-result c =
    let p = c.args.prime.p in
    let s = c.args.s in
    let q = c.args.q in
    let modulus = c.args.modulus.items in
    let positive = c.requires.degree in
    let w = c.deref.result.now in
    let k = base_ops p (length w - 2) w in
    let answer : c.in-Ok-None.field-0 ≡ None = c.in-Ok-None.field-0-is in
    let none = subst (λ o. MatchOption o (HasNoPair k) (λ pair. IsPair k pair.0 pair.1)) answer c.in-Ok-None.ensures in
    let no_pair = moved (λ n u. HasNoPair (base_ops p n u)) w modulus s c.deref.ensures.value c.requires.members none in
    let is_base : IsBase p s modulus = record {
      listed = c.args.prime.listed;
      positive = positive;
      elems = c.requires.elems;
      count = c.requires.members;
      top = c.requires.monic;
      no_pair = no_pair;
    } in
    let tables = c.in-Ok.tables in
    let sums = moved (λ n u. AreSums p n q u tables.sums) _ modulus s c.deref.ensures.value c.requires.members c.in-Ok.ensures.sums in
    let products = moved (λ n u. AreProducts p n q u tables.products) _ modulus s c.deref.ensures.value c.requires.members c.in-Ok.ensures.products in
    (is_base, (c.requires.count, (c.requires.small, (refl, (sums, (products, tt))))))
