-- The first line of a script, by the place of its first line feed.
use Rattle.std.proofs.Common.{◌≡◌, ℕ, suc, ◌+◌, ◌<◌, ◌≤◌, ◌==◌, ◌-◌, true, false, not, cond, if◌then◌else◌, Some, None, List, [], ◌∷◌, ◌++◌, ◌&&◌, length, take, drop, nat_eq, refl, sym, ap, ◌∙◌, arith}
use Rattle.std.proofs.lemmas.Bool.Decides.{nat_tests}
use Rattle.std.specs.List.{list_all, position, position_or_len}
use Rattle.script_lang.proofs.Equal.{rest_is_drop}
use Rattle.script_lang.specs.Lines.{lines, with_first}

abbrev pub feed_at : List ℕ → ℕ
feed_at bs = position_or_len (λ b. b == 10) bs

pub lines_at_feed : (bs : List ℕ) → feed_at bs < length bs → lines bs ≡ take (feed_at bs) bs ∷ lines (drop (feed_at bs + 1) bs)
lines_at_feed [] h = absurd (omega arith)
lines_at_feed (b ∷ bs) h =
    elim (nat_eq b 10) as (λ v. (cond (not v) (1 + feed_at bs) 0 < suc (length bs)) →
    (if v then [] ∷ lines bs else with_first b (lines bs)) ≡ take (cond (not v) (1 + feed_at bs) 0) (b ∷ bs) ∷ lines (drop (cond (not v) (1 + feed_at bs) 0 + 1) (b ∷ bs))) [
      | true ↦ λ _. refl
      | false ↦ λ k.
          let e : 1 + feed_at bs ≡ suc (feed_at bs) = omega arith in
          let f : suc (feed_at bs) + 1 ≡ suc (feed_at bs + 1) = omega arith in
          rw (e, f, lines_at_feed bs (omega arith))
    ] h

no_feed_cons : (b : ℕ) (bs : List ℕ) → length bs ≤ feed_at bs → suc (length bs) ≤ feed_at (b ∷ bs) → with_first b (lines bs) ≡ lines (b ∷ bs)
no_feed_cons b bs h k =
    elim (nat_eq b 10) as (λ v. (suc (length bs) ≤ cond (not v) (1 + feed_at bs) 0) → with_first b (lines bs) ≡ (if v then [] ∷ lines bs else with_first b (lines bs))) [
      | true ↦ λ q. absurd (omega arith)
      | false ↦ λ q. refl
    ] k

shorter_feed : (b : ℕ) (bs : List ℕ) → suc (length bs) ≤ feed_at (b ∷ bs) → length bs ≤ feed_at bs
shorter_feed b bs k =
    elim (nat_eq b 10) as (λ v. (suc (length bs) ≤ cond (not v) (1 + feed_at bs) 0) → length bs ≤ feed_at bs) [
      | true ↦ λ q. absurd (omega arith)
      | false ↦ λ q. omega arith
    ] k

pub lines_without_feed : (b : ℕ) (bs : List ℕ) → length (b ∷ bs) ≤ feed_at (b ∷ bs) → lines (b ∷ bs) ≡ (b ∷ bs) ∷ []
lines_without_feed b [] h = sym (no_feed_cons b [] (omega arith) h)
lines_without_feed b (c ∷ cs) h =
    let k = shorter_feed b (c ∷ cs) h in
    sym (no_feed_cons b (c ∷ cs) k h) ∙ ap (with_first b) (lines_without_feed c cs k)

position_some : (bs : List ℕ) (n : ℕ) → Some n ≡ position (λ b. b == 10) bs → (feed_at bs < length bs) × (n ≡ feed_at bs)
position_some bs n h = grind (arith, nat_tests)

position_none : (bs : List ℕ) → None ≡ position (λ b. b == 10) bs → length bs ≤ feed_at bs
position_none bs h = grind (arith, nat_tests)

pub split_at_feed : (bs : List ℕ) (n : ℕ) → Some n ≡ position (λ b. b == 10) bs → lines bs ≡ take n bs ∷ lines (take (length bs - (n + 1)) (drop (n + 1) bs))
split_at_feed bs n h =
    let p = position_some bs n h in
    rw (rest_is_drop bs (n + 1), p.1) (lines_at_feed bs p.0)

pub not_split : (bs : List ℕ) → 0 < length bs → None ≡ position (λ b. b == 10) bs → lines bs ≡ bs ∷ lines (take (length bs - length bs) (drop (length bs) bs))
not_split [] h k = absurd (omega arith)
not_split (b ∷ bs) h k =
    let e : length (b ∷ bs) - length (b ∷ bs) ≡ 0 = omega arith in
    rw e (lines_without_feed b bs (position_none (b ∷ bs) k))

-- The lines of a line, its line feed, and more.
pub lines_of_line : (line rest : List ℕ) → list_all (λ b. not (b == 10)) line ≡ true → lines (line ++ 10 ∷ rest) ≡ line ∷ lines rest
lines_of_line [] rest h = refl
lines_of_line (b ∷ bs) rest h =
    elim (nat_eq b 10) as (λ v. ((not v && list_all (λ c. not (c == 10)) bs) ≡ true) →
    (if v then [] ∷ lines (bs ++ 10 ∷ rest) else with_first b (lines (bs ++ 10 ∷ rest))) ≡ (b ∷ bs) ∷ lines rest) [
      | true ↦ λ k. cc
      | false ↦ λ k. ap (with_first b) (lines_of_line bs rest k)
    ] h

-- The lines of a line alone.
pub lines_of_last : (b : ℕ) (bs : List ℕ) → list_all (λ c. not (c == 10)) (b ∷ bs) ≡ true → lines (b ∷ bs) ≡ (b ∷ bs) ∷ []
lines_of_last b [] h =
    elim (nat_eq b 10) as (λ v. ((not v && true) ≡ true) → (if v then [] ∷ [] else (b ∷ []) ∷ []) ≡ (b ∷ []) ∷ []) [
      | true ↦ λ k. cc
      | false ↦ λ k. refl
    ] h
lines_of_last b (c ∷ bs) h =
    elim (nat_eq b 10) as (λ v. ((not v && list_all (λ d. not (d == 10)) (c ∷ bs)) ≡ true) →
    (if v then [] ∷ lines (c ∷ bs) else with_first b (lines (c ∷ bs))) ≡ (b ∷ c ∷ bs) ∷ []) [
      | true ↦ λ k. cc
      | false ↦ λ k. ap (with_first b) (lines_of_last c bs k)
    ] h
