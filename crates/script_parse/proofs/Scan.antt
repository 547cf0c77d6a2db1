-- The scan's state at the start and after one token more, and the limits from there on.
use Rattle.std.proofs.Common.{◌≡◌, ℕ, ◌+◌, ◌-◌, Bool, true, false, not, cond, min, List, [], ◌∷◌, count_by, take_while, refl, ap, ◌∙◌, arith}
use Rattle.std.proofs.lemmas.List.Sums.{sum_by-cons, take_while-cons}
use Rattle.script_lang.specs.declared.Token.{Token}
use Rattle.script_statement.specs.declared.Verb.{Verb}
use Rattle.script_parse.specs.Limits.{modules, operands, ends_operand, commas, is_comma, is_opening}
use Rattle.script_parse.specs.steps.Scan.{most, spot_of, IsSeen}
use Rattle.script_parse.specs.declared.limit.Seen.{Seen}

pub counted_next : (p : Token → Bool) (t : Token) (ts : List Token) → count_by p (t ∷ ts) ≡ cond (p t) 1 0 + count_by p ts
counted_next p t ts = sum_by-cons (λ u. cond (p u) 1 0) t ts

commas_at : (c : Bool) (t : Token) (inside : List Token) → count_by is_comma (cond (not c) (t ∷ inside) []) ≡ cond c 0 (cond (is_comma t) 1 0 + count_by is_comma inside)
commas_at true t inside = refl
commas_at false t inside = counted_next is_comma t inside

pub commas_next : (t : Token) (before : List Token) → commas (t ∷ before) ≡ cond (is_opening t) 0 (cond (is_comma t) 1 0 + commas before)
commas_next t before =
    let is_inside : Token → Bool = λ u. not (is_opening u) in
    ap (count_by is_comma) (take_while-cons is_inside t before) ∙ commas_at (is_opening t) t (take_while is_inside before)

left_next : (m p k q left new : ℕ) → left ≡ m - p → new ≡ left - k → q ≡ k + p → new ≡ m - q
left_next m p k q left new e f g = omega (arith, e, f, g)

capped_next : (c : Bool) (k p q count new : ℕ) → count ≡ min p most → new ≡ cond c 0 (min (k + count) most) → q ≡ cond c 0 (k + p) → new ≡ min q most
capped_next true k p q count new e f g = omega (arith, f, g)
capped_next false k p q count new e f g = omega (arith, e, f, g)

pub seen_after : (v : Verb) (before : List Token) (t : Token) (seen new : Seen) → IsSeen v before seen → new.spot ≡ spot_of (t ∷ before)
    → new.left ≡ seen.left - cond (ends_operand t) 1 0 → new.commas ≡ cond (is_opening t) 0 (min (cond (is_comma t) 1 0 + seen.commas) most)
    → IsSeen v (t ∷ before) new
seen_after v before t seen new s e f g =
    let is_opened = is_opening t in
    record {
      spot = e;
      left = left_next (modules v) (operands before) (cond (ends_operand t) 1 0) (operands (t ∷ before)) seen.left new.left s.left f (counted_next ends_operand t before);
      commas = capped_next is_opened (cond (is_comma t) 1 0) (commas before) (commas (t ∷ before)) seen.commas new.commas s.commas g (commas_next t before);
    }
