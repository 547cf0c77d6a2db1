-- Codes: the number whose digits in base `p`, lowest first, are the coefficients of a residue.
use Rattle.std.specs.Prelude.{ℕ, zero, suc, ◌+◌, ◌*◌, ◌/◌, ◌%◌, ◌^◌, nat_eq, nat_lt}
use Rattle.residue_field.specs.Residue.{Places}

-- Digit `i` of `c` in base `p`.
abbrev pub digit : ℕ → ℕ → ℕ → ℕ
digit p c zero = c % p
digit p c (suc i) = digit p (c / p) i

-- The number of `k` digits `g 0`, `g 1`, ..
abbrev pub number : ℕ → ℕ → (ℕ → ℕ) → ℕ
number p zero g = 0
number p (suc k) g = g 0 + p * number p k (λ i. g (suc i))

-- The storage of `n + 1` coefficients modulo `p` as one code.
abbrev pub code_places : ℕ → ℕ → Places ℕ ℕ
code_places p n = record {
  is_elem = λ c. nat_lt c (p ^ suc n);
  place = digit p;
  pack = number p (suc n);
  same = nat_eq;
}
