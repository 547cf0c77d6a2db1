-- What is kept once a full list is found: the list is that of its two modules, and their pair comes last.
use Rattle.std.proofs.Common.{◌≡◌, false, List, [], ◌∷◌, ◌++◌, sym, ap, ap₂, subst, ◌∙◌}
use Rattle.ring_core.specs.Ring.{RingOps}
use Rattle.ring_core.specs.Field.{FrobOps}
use Rattle.drinfeld_mod.specs.Module.{IsModule, constant_of}
use Rattle.hom_space.specs.Full.{IsFullList}
use Rattle.kept_lists.specs.declared.KeptList.{KeptList}
use Rattle.kept_lists.specs.Kept.{IsKeptList, AreFullLists}
use Rattle.kept_lists.specs.Pairs.{has_pair, newest, pairs_of, with_pair}
use Rattle.kept_lists.proofs.Newest.{pairs_kept, full_kept}
use Rattle.kept_lists.proofs.There.{with_new}

module _ {E : Type 0} (phi psi : List E) (kept room after : List (KeptList E)) (one : KeptList E)
    (source_is : one.source ≡ phi) (target_is : one.target ≡ psi) (room_is : room ≡ kept) (after_is : after ≡ newest (room ++ one ∷ [])) where
  kept_is : after ≡ newest (kept ++ one ∷ [])
  kept_is = after_is ∙ ap (λ ks. newest (ks ++ one ∷ [])) room_is

  pub pairs_then : (r : RingOps E) → has_pair r phi psi (pairs_of kept) ≡ false → pairs_of after ≡ with_pair r phi psi (pairs_of kept)
  pairs_then r new =
      ap (λ ks. pairs_of ks) kept_is ∙ pairs_kept kept one ∙ ap₂ (λ a b. newest (pairs_of kept ++ (a, b) ∷ [])) source_is target_is ∙ with_new r phi psi (pairs_of kept) new

  pub full_then : {B : Type 0} (r : RingOps E) (base : RingOps B) (f : FrobOps E B) → AreFullLists r base f kept → IsModule r phi → IsModule r psi → constant_of r phi ≡ constant_of r psi
      → IsFullList r base f phi psi one.members → AreFullLists r base f after
  full_then r base f full source target constants members =
      let is : IsKeptList r base f one = record {
        source = subst (IsModule r) (sym source_is) source;
        target = subst (IsModule r) (sym target_is) target;
        constants = ap (constant_of r) source_is ∙ constants ∙ sym (ap (constant_of r) target_is);
        full = subst (λ u. IsFullList r base f u one.target one.members) (sym source_is) (subst (λ u. IsFullList r base f phi u one.members) (sym target_is) members);
      } in
      subst (AreFullLists r base f) (sym kept_is) (full_kept r base f kept one full is)
