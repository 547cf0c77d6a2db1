-- A front of one of two texts that are written one after the other.
use Rattle.std.proofs.Common.{◌≡◌, ℕ, ◌+◌, ◌≤◌, Option, List, ◌++◌, length, take, min, sym, ◌∙◌, ap, arith}
use Rattle.std.proofs.Math.Seq.{take-append-add}
use Rattle.std.proofs.lemmas.List.{take_min, take-append-le}
use Rattle.text_io.specs.Bytes.{with_back}
use Rattle.drinfeld_cli.proofs.Ran.{with_back_twice}

-- Of the first.
pub first_front : (old new : Option (List ℕ)) (a b : List ℕ) (n : ℕ) → new ≡ with_back old (take n a) → (m : ℕ) × (new ≡ with_back old (take m (a ++ b)))
first_front old new a b n is =
    let small : min n (length a) ≤ length a = omega arith in
    (min n (length a), is ∙ ap (with_back old) (sym (take_min n a) ∙ sym (take-append-le (min n (length a)) a b small)))

-- Of the second, after all of the first.
pub second_front : (old mid new : Option (List ℕ)) (a b : List ℕ) (n : ℕ) → mid ≡ with_back old a → new ≡ with_back mid (take n b) → (m : ℕ) × (new ≡ with_back old (take m (a ++ b)))
second_front old mid new a b n first is =
    (length a + n, is ∙ ap (λ x. with_back x (take n b)) first ∙ with_back_twice old a (take n b) ∙ ap (with_back old) (sym (take-append-add a b n)))
