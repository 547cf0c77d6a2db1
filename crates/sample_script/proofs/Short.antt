-- The sample has few bytes.
use Rattle.std.proofs.Common.{◌≡◌, ℕ, suc, ◌*◌, ◌-◌, ◌<◌, ◌≤◌, ◌==◌, Bool, true, false, if◌then◌else◌, List, [], ◌∷◌, ◌++◌, length, codes, decimal, refl, arith}
use Rattle.std.specs.Prelude.{nat_lt}
use Rattle.std.specs.List.{flat_map, list_all}
use Rattle.std.proofs.lemmas.Bool.{and_parts, ltb-true}
use Rattle.std.proofs.lemmas.List.{length-append}
use Rattle.std.proofs.lemmas.Fmt.{length-decimal-le}
use Rattle.ring_core.specs.Coeffs.{first_values}
use Rattle.sample_script.specs.Sample.{draw, element, top_element, name_of, module_line, count_line, twelve, sample_text}
use Rattle.sample_script.proofs.Element.{element_short}

top_short : (d : ℕ) → length (top_element d) ≤ 32
top_short d = at (d == 0)
  where
    at : (b : Bool) → length (if b then codes "1" else element d) ≤ 32
    at true = omega arith
    at false = element_short d

pub name_short : (k : ℕ) → k < 13 → length (name_of k) ≤ 3
name_short k l =
    let digits = length-decimal-le 2 k (omega arith) (omega (arith, l)) (omega (arith, l)) in
    let all : length (name_of k) ≡ suc (length (decimal k)) = refl in
    omega (arith, digits, all)

module_short : (n k : ℕ) → k < 13 → length (module_line n k) ≤ 85
module_short n k l =
    let name = name_short k l in
    let g = element_short (draw n (2 * k - 1)) in
    let h = top_short (draw n (2 * k)) in
    let w = name_of k in
    let x = element (draw n (2 * k - 1)) in
    let y = top_element (draw n (2 * k)) in
    let a = length-append (codes "module ") w in
    let b = length-append (codes "module " ++ w) (codes " = [z, ") in
    let c = length-append (codes "module " ++ w ++ codes " = [z, ") x in
    let d = length-append (codes "module " ++ w ++ codes " = [z, " ++ x) (codes ", ") in
    let e = length-append (codes "module " ++ w ++ codes " = [z, " ++ x ++ codes ", ") y in
    let f = length-append (codes "module " ++ w ++ codes " = [z, " ++ x ++ codes ", " ++ y) (codes "]\n") in
    omega (arith, name, g, h, a, b, c, d, e, f)

count_short : (k : ℕ) → k < 13 → length (count_line k) ≤ 17
count_short k l =
    let name = name_short k l in
    let w = name_of k in
    let a = length-append (codes "fullsize ") w in
    let b = length-append (codes "fullsize " ++ w) (codes " ") in
    let c = length-append (codes "fullsize " ++ w ++ codes " ") w in
    let d = length-append (codes "fullsize " ++ w ++ codes " " ++ w) (codes "\n") in
    omega (arith, name, a, b, c, d)

texts_short : (f : ℕ → List ℕ) (b : ℕ) → ((k : ℕ) → k < 13 → length (f k) ≤ b) → (ks : List ℕ) → list_all (λ k. nat_lt k 13) ks ≡ true → length (flat_map f ks) ≤ length ks * b
texts_short f b each [] h = omega arith
texts_short f b each (k ∷ ks) h =
    let parts = and_parts (nat_lt k 13) _ h in
    let one = each k (ltb-true k 13 parts.0) in
    let more = texts_short f b each ks parts.1 in
    let all = length-append (f k) (flat_map f ks) in
    omega (arith, one, more, all)

twelve_short : (f : ℕ → List ℕ) (b : ℕ) → ((k : ℕ) → k < 13 → length (f k) ≤ b) → length (twelve f) ≤ 12 * b
unfolding twelve
twelve_short f b each = texts_short f b each (first_values 12 suc) refl

pub sample_short : (n : ℕ) → length (sample_text n) < 2000
unfolding sample_text
sample_short n =
    let head = codes "base 2\nover 8 z^8+z^4+z^3+z+1\n" in
    let m = twelve_short (module_line n) 85 (module_short n) in
    let c = twelve_short count_line 17 count_short in
    let a = length-append head (twelve (module_line n)) in
    let b = length-append (head ++ twelve (module_line n)) (twelve count_line) in
    omega (arith, m, c, a, b)
