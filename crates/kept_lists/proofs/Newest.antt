-- The newest of kept lists: their pairs, and that each is the full list of its pair.
use Rattle.std.proofs.Common.{◌≡◌, ◌-◌, List, [], ◌∷◌, ◌++◌, length, drop, ap, sym, ◌∙◌}
use Rattle.std.proofs.lemmas.List.{drop-map, length-map, map-append}
use Rattle.std.proofs.lemmas.List.Elements.{All-nil, All-cons, All-append, All-drop}
use Rattle.ring_core.specs.Ring.{RingOps}
use Rattle.ring_core.specs.Field.{FrobOps}
use Rattle.kept_lists.specs.declared.kept.KeptList.{KeptList}
use Rattle.kept_lists.specs.Kept.{IsKeptList, AreFullLists}
use Rattle.kept_lists.specs.Pairs.{pairs_of, newest}

abbrev pair : {E : Type 0} → KeptList E → List E × List E
pair k = (k.source, k.target)

pub pairs_newest : {E : Type 0} (kept : List (KeptList E)) → pairs_of (newest kept) ≡ newest (pairs_of kept)
pairs_newest kept = sym (drop-map pair (length kept - 8) kept) ∙ ap (λ n. drop (n - 8) (pairs_of kept)) (sym (length-map kept pair))

-- one more list is kept
pub pairs_kept : {E : Type 0} (kept : List (KeptList E)) (k : KeptList E) → pairs_of (newest (kept ++ k ∷ [])) ≡ newest (pairs_of kept ++ (k.source, k.target) ∷ [])
pairs_kept kept k = pairs_newest (kept ++ k ∷ []) ∙ ap (λ ps. newest ps) (map-append pair kept (k ∷ []))

pub full_kept : {E B : Type 0} (r : RingOps E) (base : RingOps B) (f : FrobOps E B) (kept : List (KeptList E)) (k : KeptList E) → AreFullLists r base f kept → IsKeptList r base f k → AreFullLists r base f (newest (kept ++ k ∷ []))
full_kept r base f kept k full one =
    let P = IsKeptList r base f in
    let more = kept ++ k ∷ [] in
    All-drop P (length more - 8) more (All-append P kept (k ∷ []) full (All-cons P k [] one (All-nil P)))
