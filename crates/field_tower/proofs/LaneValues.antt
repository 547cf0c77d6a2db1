-- Lanes of `u32`: the least of two, and the remainder by a reciprocal in 19 bits.
use Rattle.std.proofs.lemmas.Bool.{cases_lt}
use Rattle.std.proofs.Common.{inl, inr, ◌≡◌, ℕ, ◌+◌, ◌-◌, ◌*◌, ◌/◌, ◌%◌, ◌^◌, ◌<◌, ◌≤◌, List, [], ◌∷◌, length, slice_index_or, zero, suc, replicate, cond, nat_lt, sym, refl, ap, ◌∙◌, arith, mul_assoc, mul_comm, add-mul, lt-ltb, le-ltb}
use Rattle.std.proofs.Math.Nat.{mod-eq_of_lt, add-mod_right, div-mul-le_self}
use Rattle.std.proofs.lemmas.Bool.{cond-true, cond-false}
use Rattle.std.proofs.lemmas.Nat.{mul-le, mod-mul-add}
use Rattle.std.proofs.lemmas.Simd.{length-zip2, get_or-zip2, length-replicate, get_or-replicate}
use lib.Lanes.{zip2, sel_l}
use Rattle.field_tower.specs.steps.Lanes.{sixteen}
use Rattle.field_tower.proofs.Reciprocal.{quotient_low, quotient_high}

pub sel_least : (xs ys : List ℕ) → sel_l (zip2 nat_lt xs ys) xs ys ≡ zip2 (λ a b. cond (nat_lt a b) a b) xs ys
sel_least [] ys = refl
sel_least (x ∷ xs) [] = refl
sel_least (x ∷ xs) (y ∷ ys) = ap (λ l. cond (nat_lt x y) x y ∷ l) (sel_least xs ys)

module _ (f : ℕ → ℕ → ℕ) (xs : List ℕ) (wide : length xs ≡ 16) where
  pub width-zip : (ys : List ℕ) → length ys ≡ 16 → length (zip2 f xs ys) ≡ 16
  width-zip ys l = length-zip2 f xs ys (wide ∙ sym l) ∙ wide

  pub lane-zip : (ys : List ℕ) → length ys ≡ 16 → (j : ℕ) → j < 16 → slice_index_or (zip2 f xs ys) j 0 ≡ f (slice_index_or xs j 0) (slice_index_or ys j 0)
  lane-zip ys l j m = get_or-zip2 f xs ys j 0 0 0 (omega arith) (omega arith)

  pub width-splat : (c : ℕ) → length (zip2 f xs (sixteen c)) ≡ 16
  width-splat c = width-zip (sixteen c) (length-replicate 16 c)

  pub lane-splat : (c j : ℕ) → j < 16 → slice_index_or (zip2 f xs (sixteen c)) j 0 ≡ f (slice_index_or xs j 0) c
  lane-splat c j m = lane-zip (sixteen c) (length-replicate 16 c) j m ∙ ap (f (slice_index_or xs j 0)) (get_or-replicate 16 j c 0 m)

-- a difference that doesn't wrap
pub minus_fits : (a b : ℕ) → b ≤ a → a < 4294967296 → (a + (4294967296 - b)) % 4294967296 ≡ a - b
minus_fits a b l m =
    let whole : a + (4294967296 - b) ≡ (a - b) + 4294967296 = omega arith in
    ap (λ n. n % 4294967296) whole ∙ add-mod_right (a - b) 4294967296 ∙ mod-eq_of_lt (omega arith)

-- a difference that wraps
minus_wraps : (a b : ℕ) → a < b → b ≤ 4294967296 → (a + (4294967296 - b)) % 4294967296 ≡ a + (4294967296 - b)
minus_wraps a b l m = mod-eq_of_lt (omega arith)

abbrev pub lesser : ℕ → ℕ → ℕ
lesser a b = cond (nat_lt a b) a b

pub lesser_low : (a p : ℕ) → a < p → p < 2147483648 → lesser a ((a + (4294967296 - p)) % 4294967296) ≡ a
lesser_low a p l m =
    let y = (a + (4294967296 - p)) % 4294967296 in
    let more : a < y = omega (arith, minus_wraps a p l (omega arith)) in
    cond-true (nat_lt a y) a y (lt-ltb a y more)

pub lesser_high : (a p : ℕ) → 0 < p → p ≤ a → a < 2147483648 → lesser a ((a + (4294967296 - p)) % 4294967296) ≡ a - p
lesser_high a p some l m =
    let y = (a + (4294967296 - p)) % 4294967296 in
    let fewer : y ≤ a = omega (arith, minus_fits a p l (omega arith)) in
    cond-false (nat_lt a y) a y (le-ltb a y fewer) ∙ minus_fits a p l (omega arith)

module _ (x p m : ℕ) (large : 1 < p) (small : p ≤ 257) (is : m ≡ 524288 / p) (fits : x ≤ 16 * ((p - 1) * (p - 1))) where
  pub lane-le : x ≤ 1048576
  lane-le =
      let below : p - 1 ≤ 256 = omega arith in
      let squares : (p - 1) * (p - 1) ≤ 256 * 256 = mul-le (p - 1) (p - 1) 256 256 below below in
      omega arith

  -- the product with the reciprocal doesn't wrap
  pub scaled-lt : x * m < 4294967296
  scaled-lt =
      let u = p - 1 in
      let below : u ≤ 256 = omega arith in
      let a : x * m ≤ (16 * (u * u)) * m = mul-le x m (16 * (u * u)) m fits (omega arith) in
      let b : m * p ≤ 524288 = div-mul-le_self' in
      let c : u * m ≤ p * m = mul-le u m p m (omega arith) (omega arith) in
      let c1 = mul_comm m p in
      let d : u * (u * m) ≤ 256 * 524288 = mul-le u (u * m) 256 524288 below (omega arith) in
      let e = mul_assoc 16 (u * u) m in
      let e1 = mul_assoc u u m in
      let e2 : 16 * ((u * u) * m) ≤ 16 * (256 * 524288) = omega arith in
      omega arith
    where
      div-mul-le_self' : m * p ≤ 524288
      div-mul-le_self' = omega (arith, div-mul-le_self 524288 p, ap (λ n. n * p) is)

  abbrev pub rest : ℕ
  rest = x - x * m / 524288 * p

  pub rest-lt : rest < 3 * p
  rest-lt = omega (arith, quotient_high 524288 p x m (omega arith) is (omega arith) 2 (omega (arith, lane-le)))

  low : x * m / 524288 * p ≤ x
  low = quotient_low 524288 p x m (omega arith) is (omega arith)

  -- what the words of the lanes come to
  pub rest-is : (x + (4294967296 - ((x * m) % 4294967296 / 524288 * p) % 4294967296)) % 4294967296 ≡ rest
  rest-is =
      let under : x * m / 524288 * p < 4294967296 = omega (arith, low, lane-le) in
      ap (λ n. (x + (4294967296 - (n / 524288 * p) % 4294967296)) % 4294967296) (mod-eq_of_lt scaled-lt)
      ∙ ap (λ n. (x + (4294967296 - n)) % 4294967296) (mod-eq_of_lt under)
      ∙ minus_fits x (x * m / 524288 * p) low (omega (arith, lane-le))

  -- two subtractions where they fit
  pub remainder : (z : ℕ) → (rest < p → z ≡ rest) → (p ≤ rest → z ≡ rest - p) → (w : ℕ) → (z < p → w ≡ z) → (p ≤ z → w ≡ z - p) → w ≡ x % p
  remainder z keeps takes w keeps2 takes2 =
      let q = x * m / 524288 in
      let under : q * p ≤ x = low in
      let over : rest < 3 * p = rest-lt in
      let add1 = add-mul q 1 p in
      let add2 = add-mul q 2 p in
      elim (cases_lt rest p) [
        | inl a ↦
            let z_is : z ≡ rest = keeps a in
            let w_is : w ≡ z = keeps2 (omega arith) in
            let whole : q * p + w ≡ x = omega arith in
            sym (ap (λ n. n % p) (sym whole) ∙ mod-mul-add q p w (omega arith))
        | inr a ↦
            let z_is : z ≡ rest - p = takes a in
            elim (cases_lt z p) [
              | inl b ↦
                  let w_is : w ≡ z = keeps2 b in
                  let whole : (q + 1) * p + w ≡ x = omega arith in
                  sym (ap (λ n. n % p) (sym whole) ∙ mod-mul-add (q + 1) p w (omega arith))
              | inr b ↦
                  let w_is : w ≡ z - p = takes2 b in
                  let whole : (q + 2) * p + w ≡ x = omega arith in
                  sym (ap (λ n. n % p) (sym whole) ∙ mod-mul-add (q + 2) p w (omega arith))
            ]
      ]

abbrev pub minus : ℕ → ℕ → ℕ
minus a b = (a + (4294967296 - b)) % 4294967296

abbrev pub times : ℕ → ℕ → ℕ
times a b = (a * b) % 4294967296

-- one subtraction where it fits
module _ (x : List ℕ) (p : ℕ) (wide : length x ≡ 16) (j : ℕ) (l : j < 16) where
  once_lane : slice_index_or (zip2 lesser x (zip2 minus x (sixteen p))) j 0 ≡ lesser (slice_index_or x j 0) (minus (slice_index_or x j 0) p)
  once_lane =
      lane-zip lesser x wide (zip2 minus x (sixteen p)) (width-splat minus x wide p) j l
      ∙ ap (lesser (slice_index_or x j 0)) (lane-splat minus x wide p j l)

  pub once_low : slice_index_or x j 0 < p → p < 2147483648 → slice_index_or (zip2 lesser x (zip2 minus x (sixteen p))) j 0 ≡ slice_index_or x j 0
  once_low m s = once_lane ∙ lesser_low (slice_index_or x j 0) p m s

  pub once_high : 0 < p → p ≤ slice_index_or x j 0 → slice_index_or x j 0 < 2147483648 → slice_index_or (zip2 lesser x (zip2 minus x (sixteen p))) j 0 ≡ slice_index_or x j 0 - p
  once_high s m b = once_lane ∙ lesser_high (slice_index_or x j 0) p s m b

abbrev pub down : ℕ → ℕ → ℕ
down a b = a / 2 ^ b

-- what is left of a lane when the multiple by the quotient is taken away
module _ (x : List ℕ) (p m : ℕ) (wide : length x ≡ 16) where
  abbrev pub rests : List ℕ
  rests = zip2 minus x (zip2 times (zip2 down (zip2 times x (sixteen m)) (sixteen 19)) (sixteen p))

  scaled-wide : length (zip2 times x (sixteen m)) ≡ 16
  scaled-wide = width-splat times x wide m

  down-wide : length (zip2 down (zip2 times x (sixteen m)) (sixteen 19)) ≡ 16
  down-wide = width-splat down _ scaled-wide 19

  taken-wide : length (zip2 times (zip2 down (zip2 times x (sixteen m)) (sixteen 19)) (sixteen p)) ≡ 16
  taken-wide = width-splat times _ down-wide p

  pub rests-lane : (j : ℕ) → j < 16 → slice_index_or rests j 0 ≡ (slice_index_or x j 0 + (4294967296 - ((slice_index_or x j 0 * m) % 4294967296 / 524288 * p) % 4294967296)) % 4294967296
  rests-lane j l =
      lane-zip minus x wide _ taken-wide j l
      ∙ ap (minus (slice_index_or x j 0))
      (lane-splat times _ down-wide p j l
      ∙ ap (λ n. times n p) (lane-splat down _ scaled-wide 19 j l ∙ ap (λ n. down n 19) (lane-splat times x wide m j l)))

-- one subtraction makes nothing greater
pub once_le : (x z p : ℕ) → (x < p → z ≡ x) → (p ≤ x → z ≡ x - p) → z ≤ x
once_le x z p keeps takes = elim (cases_lt x p) [ inl a ↦ omega (arith, keeps a) | inr a ↦ omega (arith, takes a) ]

abbrev pub plus : ℕ → ℕ → ℕ
plus a b = (a + b) % 4294967296

pub zeros-read : (n k : ℕ) → ◌≡◌ {A = ℕ} (slice_index_or (replicate n 0) k 0) 0
zeros-read zero k = refl
zeros-read (suc n) zero = refl
zeros-read (suc n) (suc k) = zeros-read n k
