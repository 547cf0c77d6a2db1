-- Among more numbers than there are values, two have the same value.
use Rattle.std.proofs.Common.{◌≡◌, ◌≢◌, ℕ, zero, suc, ◌-◌, ◌<◌, ◌≤◌, ◌⊎◌, inl, inr, sym, ◌∙◌, ap, cond, ltb, arith}
use Rattle.std.proofs.lemmas.Bool.{cases_eq}
use Rattle.std.proofs.lemmas.Bool.Decides.{nat_tests}

-- Two numbers up to `b` at which `g` has one value.
pub record Repeat (b : ℕ) (g : ℕ → ℕ) : Type 0 where
  pub first : ℕ
  pub second : ℕ
  pub order : first < second
  pub within : second ≤ b
  pub same : g first ≡ g second

-- a number below n with the value t, if there is one
find_value : (n : ℕ) (g : ℕ → ℕ) (t : ℕ) → ((i : ℕ) × (i < n) × (g i ≡ t)) ⊎ ((i : ℕ) → i < n → g i ≢ t)
find_value zero g t = inr (λ i l e. absurd (omega arith))
find_value (suc n) g t =
    elim (cases_eq (g n) t) [
      | inl e ↦ inl (n, omega arith, e)
      | inr ne ↦
          elim (find_value n g t) [
            | inl f ↦ inl (f.0, let l : f.0 < n = f.1 in omega arith, f.2)
            | inr none ↦
                inr (λ i l e. elim (cases_eq i n) [
                  | inl same ↦ ne (ap g (sym same) ∙ e)
                  | inr other ↦ none i (omega arith) e
                ])
          ]
    ]

-- the numbers other than t, moved together
abbrev squeeze : ℕ → ℕ → ℕ
squeeze t x = cond (ltb x t) x (x - 1)

squeeze_below : (c t x : ℕ) → x < suc c → t < suc c → x ≢ t → squeeze t x < c
squeeze_below c t x l m ne = grind (arith, nat_tests)

squeeze_inj : (t x y : ℕ) → x ≢ t → y ≢ t → squeeze t x ≡ squeeze t y → x ≡ y
squeeze_inj t x y ne nf e = grind (arith, nat_tests)

pub pigeon : (b : ℕ) (g : ℕ → ℕ) → ((i : ℕ) → i ≤ b → g i < b) → Repeat b g
pigeon zero g below = let l : g 0 < 0 = below 0 (omega arith) in absurd (omega arith)
pigeon (suc c) g below =
    elim (find_value (suc c) g (g (suc c))) [
      | inl f ↦ record { first = f.0; second = suc c; order = f.1; within = omega arith; same = f.2 }
      | inr none ↦
          let t = g (suc c) in
          let m =
          pigeon c (λ i. squeeze t (g i))
          (λ i l. squeeze_below c t (g i) (below i (omega arith)) (below (suc c) (omega arith)) (none i (omega arith))) in
          let within : m.second ≤ c = m.within in
          let order : m.first < m.second = m.order in
          record {
            first = m.first;
            second = m.second;
            order = order;
            within = omega arith;
            same = squeeze_inj t (g m.first) (g m.second) (none m.first (omega arith)) (none m.second (omega arith)) m.same;
          }
    ]
