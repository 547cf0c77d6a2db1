-- The first kept list of a pair of modules.
use Rattle.std.proofs.Common.{◌≡◌, ℕ, ◌<◌, true, Option, List, length, get_or, ap, sym, subst, ◌∙◌}
use Rattle.std.proofs.lemmas.Bool.{and_parts}
use Rattle.std.proofs.lemmas.List.Elements.{All-get_or, All-same}
use Rattle.ring_core.specs.Ring.{RingOps}
use Rattle.ring_core.specs.Field.{IsField, FrobOps}
use Rattle.ring_core.specs.Coeffs.{are_elems}
use Rattle.ring_core.proofs.Coefficients.{same_lists-eq}
use Rattle.drinfeld_mod.specs.Module.{IsModule, constant_of}
use Rattle.hom_space.specs.Full.{IsFullList}
use Rattle.kept_lists.specs.declared.kept.KeptList.{KeptList}
use Rattle.kept_lists.specs.Kept.{IsKeptList, AreFullLists}
use Rattle.kept_lists.specs.Pairs.{is_pair}

pub module_elems : {E : Type 0} (r : RingOps E) (phi : List E) → IsModule r phi → are_elems r phi ≡ true
module_elems r phi m = (and_parts _ _ m.canonical).0

-- what is read of the lists, seen as a slice `v`
pub kept_at : {E B : Type 0} (r : RingOps E) (base : RingOps B) (f : FrobOps E B) (kept v : List (KeptList E)) (i : ℕ) (k : KeptList E) → AreFullLists r base f kept → v ≡ kept → i < length v → k ≡ get_or v i k → IsKeptList r base f k
kept_at r base f kept v i k full same low read =
    let P = IsKeptList r base f in
    subst P (sym read) (All-get_or P v i k low (All-same P v kept same full))

-- a list that is found is that of the two modules
module _ {E B : Type 0} (r : RingOps E) (inv : E → Option E) (base : RingOps B) (f : FrobOps E B) (field : IsField r inv) (phi psi : List E) (source : IsModule r phi) (target : IsModule r psi)
    (k : KeptList E) (kept : IsKeptList r base f k) (is : is_pair r phi psi (k.source, k.target) ≡ true) where
  source_is : k.source ≡ phi
  source_is = same_lists-eq r field.ring.closed.zero_in field.ring.equal k.source phi (module_elems r k.source kept.source) (module_elems r phi source) (and_parts _ _ is).0

  target_is : k.target ≡ psi
  target_is = same_lists-eq r field.ring.closed.zero_in field.ring.equal k.target psi (module_elems r k.target kept.target) (module_elems r psi target) (and_parts _ _ is).1

  pub full_found : IsFullList r base f phi psi k.members
  full_found = subst (λ u. IsFullList r base f u psi k.members) source_is (subst (λ u. IsFullList r base f k.source u k.members) target_is kept.full)

  pub constants_found : constant_of r phi ≡ constant_of r psi
  constants_found = sym (ap (constant_of r) source_is) ∙ kept.constants ∙ ap (constant_of r) target_is
