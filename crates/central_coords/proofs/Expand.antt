-- Coordinates over constants, and what an additive map makes of sums.
use Rattle.std.proofs.Common.{◌≡◌, ◌≢◌, ℕ, zero, suc, ◌<◌, ◌≤◌, sym, ◌∙◌, ap, ⊎_elim, arith}
use Rattle.std.proofs.lemmas.Bool.{cases_lt}
use Rattle.ring_core.proofs.Carrier.{RingOn, mul_zero, zero_only}
use Rattle.ring_core.proofs.Series.{total}
use Rattle.linear_algebra.proofs.Sums.{combine, total_same, total_zero, total_single}

module _ {M P : Type 0} (R : RingOn M) (Q : RingOn P) (L : M → P) (add : (x y : M) → L (R.add x y) ≡ Q.add (L x) (L y)) where
  pub image_zero : L R.zero ≡ Q.zero
  image_zero = zero_only Q (L R.zero) (sym (add R.zero R.zero) ∙ ap L (R.zero_add R.zero))

  pub image_total : (n : ℕ) (g : ℕ → M) → L (total R n g) ≡ total Q n (λ i. L (g i))
  image_total zero g = image_zero
  image_total (suc n) g = add _ _ ∙ ap (λ y. Q.add y (L (g n))) (image_total n g)

-- `C j x` is coordinate j of x over the constants K, which `up` brings into the ring; `e k` has the coordinate one at k alone.
pub record HasCoordinates {N M : Type 0} (K : RingOn N) (R : RingOn M) (up : N → M) (C : ℕ → M → N) (e : ℕ → M) : Type 0 where
  pub add : (j : ℕ) (x y : M) → C j (R.add x y) ≡ K.add (C j x) (C j y)
  pub scale : (j : ℕ) (b : N) (x : M) → C j (R.mul (up b) x) ≡ K.mul b (C j x)
  pub same : (k : ℕ) → C k (e k) ≡ K.one
  pub other : (j k : ℕ) → j ≢ k → C j (e k) ≡ K.zero
  pub inj : (x y : M) → ((j : ℕ) → C j x ≡ C j y) → x ≡ y

module _ {N M : Type 0} {K : RingOn N} {R : RingOn M} {up : N → M} {C : ℕ → M → N} {e : ℕ → M} (h : HasCoordinates K R up C e) where
  pub coordinate_zero : (j : ℕ) → C j R.zero ≡ K.zero
  coordinate_zero j = image_zero R K (C j) (h.add j)

  -- the combination of elements by constants
  abbrev pub sum_of : ℕ → (ℕ → N) → (ℕ → M) → M
  sum_of n c g = total R n (λ i. R.mul (up (c i)) (g i))

  pub sum_coordinate : (j n : ℕ) (c : ℕ → N) (g : ℕ → M) → C j (sum_of n c g) ≡ combine K n c (λ i j. C j (g i)) j
  sum_coordinate j n c g = image_total R K (C j) (h.add j) n (λ i. R.mul (up (c i)) (g i)) ∙ total_same K n _ _ (λ i l. h.scale j (c i) (g i))

  -- the combination of basis elements by coefficients that are zero from w on has them as coordinates
  pub units_coordinate : (j w : ℕ) (c : ℕ → N) → ((i : ℕ) → w ≤ i → c i ≡ K.zero) → C j (sum_of w c e) ≡ c j
  units_coordinate j w c past =
      sum_coordinate j w c e
      ∙ ⊎_elim
      (λ (low : j < w).
      total_single K w j _ low (λ i l apart. ap (K.mul (c i)) (h.other j i (λ q. apart (sym q))) ∙ mul_zero K (c i)) ∙ ap (K.mul (c j)) (h.same j) ∙ K.mul_one (c j))
      (λ (high : w ≤ j). total_zero K w _ (λ i l. let apart : j ≢ i = omega arith in ap (K.mul (c i)) (h.other j i apart) ∙ mul_zero K (c i)) ∙ sym (past j high))
      (cases_lt j w)

  -- a map that respects sums and constants takes combinations to those of the images
  pub sum_image : (L : M → M) → ((x y : M) → L (R.add x y) ≡ R.add (L x) (L y)) → ((b : N) (x : M) → L (R.mul (up b) x) ≡ R.mul (up b) (L x))
      → (n : ℕ) (c : ℕ → N) (g : ℕ → M) → L (sum_of n c g) ≡ sum_of n c (λ i. L (g i))
  sum_image L add scale n c g = image_total R R L add n (λ i. R.mul (up (c i)) (g i)) ∙ total_same R n _ _ (λ i l. scale (c i) (g i))
