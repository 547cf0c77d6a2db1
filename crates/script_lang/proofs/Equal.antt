-- Equations of lists, heads and tails.
use Rattle.std.proofs.Common.{◌≡◌, ℕ, ◌-◌, Some, List, ◌∷◌, length, take, drop, arith}
use Rattle.std.proofs.lemmas.Grind.{common_steps}

pub same_some : {X : Type 0} {x y : X} → Some x ≡ Some y → x ≡ y
same_some e = cc

pub same_head : {X : Type 0} {x y : X} {xs ys : List X} → x ∷ xs ≡ y ∷ ys → x ≡ y
same_head e = cc

pub same_tail : {X : Type 0} {x y : X} {xs ys : List X} → x ∷ xs ≡ y ∷ ys → xs ≡ ys
same_tail e = cc

pub cons_same : {X : Type 0} {x y : X} {xs ys : List X} → x ≡ y → xs ≡ ys → x ∷ xs ≡ y ∷ ys
cons_same e f = cc

-- What a range to the end of a slice is.
pub rest_is_drop : (bs : List ℕ) (n : ℕ) → take (length bs - n) (drop n bs) ≡ drop n bs
rest_is_drop bs n = grind (arith, common_steps)
