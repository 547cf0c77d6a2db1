-- A pair of modules whose full list is kept.
use Rattle.std.proofs.Common.{◌≡◌, true, false, Option, List, [], ◌∷◌, ◌++◌, if◌then◌else◌, ⊎_elim, ap, sym}
use Rattle.std.proofs.lemmas.Bool.{false≢true, or_cases}
use Rattle.std.proofs.lemmas.List.Elements.{All-head, All-tail}
use Rattle.ring_core.specs.Ring.{RingOps}
use Rattle.ring_core.specs.Field.{IsField, FrobOps}
use Rattle.drinfeld_mod.specs.Module.{IsModule, constant_of}
use Rattle.kept_lists.specs.declared.kept.KeptList.{KeptList}
use Rattle.kept_lists.specs.Kept.{IsKeptList, AreFullLists}
use Rattle.kept_lists.specs.Pairs.{is_pair, has_pair, newest, pairs_of, with_pair}
use Rattle.kept_lists.proofs.Finding.{constants_found}

-- a list that is kept and has the pair
pub there : {E B : Type 0} (r : RingOps E) (base : RingOps B) (f : FrobOps E B) (phi psi : List E) (kept : List (KeptList E)) → AreFullLists r base f kept → has_pair r phi psi (pairs_of kept) ≡ true
    → (k : KeptList E) × IsKeptList r base f k × (is_pair r phi psi (k.source, k.target) ≡ true)
there r base f phi psi [] full h = absurd (false≢true h)
there r base f phi psi (k ∷ ks) full h =
    let P = IsKeptList r base f in
    ⊎_elim
    (λ (e : is_pair r phi psi (k.source, k.target) ≡ true). (k, All-head P k ks full, e))
    (λ (e : has_pair r phi psi (pairs_of ks) ≡ true). there r base f phi psi ks (All-tail P k ks full) e)
    (or_cases _ _ h)

pub constants_there : {E B : Type 0} (r : RingOps E) (inv : E → Option E) (base : RingOps B) (f : FrobOps E B) (field : IsField r inv) (phi psi : List E) (kept : List (KeptList E)) → IsModule r phi → IsModule r psi
    → AreFullLists r base f kept → has_pair r phi psi (pairs_of kept) ≡ true → constant_of r phi ≡ constant_of r psi
constants_there r inv base f field phi psi kept source target full h =
    let one = there r base f phi psi kept full h in
    constants_found r inv base f field phi psi source target one.0 one.1 one.2

-- the pairs once the list of a pair is kept
pub with_new : {E : Type 0} (r : RingOps E) (phi psi : List E) (pairs : List (List E × List E)) → has_pair r phi psi pairs ≡ false → newest (pairs ++ (phi, psi) ∷ []) ≡ with_pair r phi psi pairs
with_new r phi psi pairs h = sym (ap (λ b. if b then pairs else newest (pairs ++ (phi, psi) ∷ [])) h)
