-- Modules of rows: what is reached is closed under shifts, and what reaches the rows of a family reaches all that they do.
use Rattle.std.proofs.Common.{◌≡◌, ℕ, zero, suc, ◌+◌, ◌*◌, ◌/◌, ◌%◌, ◌<◌, ◌≤◌, true, List, [], ◌∷◌, length, cond, nat_lt, refl, sym, ◌∙◌, ap, arith, lt-ltb, le-ltb, ltb-true, ltb-false}
use Rattle.std.proofs.Math.Nat.{mod-lt, le-mul_of_pos_right}
use Rattle.std.proofs.lemmas.Nat.{div-add-mod'}
use Rattle.ring_core.specs.Ring.{RingOps, IsRing}
use Rattle.ring_core.specs.Coeffs.{coeff, is_canonical, first_values, list_of}
use Rattle.ring_core.proofs.Carrier.{RingOn, Element, elements, same_element, mul_zero}
use Rattle.ring_core.proofs.Coefficients.{coeff-list_of, canonical-list_of}
use Rattle.ring_core.proofs.FirstValues.{length-first_values, at-first_values}
use Rattle.linear_algebra.specs.Linear.{entry}
use Rattle.linear_algebra.proofs.Sums.{combine, combine_same, total_zero, by_bool}
use Rattle.linear_algebra.proofs.Lift.{AreIn, AllIn, row_of, rows_of}
use Rattle.flat_modules.specs.Flat.{are_flat, combination, IsInModule}
use Rattle.flat_modules.proofs.Shift.{shift, powers, shift_same, shift_zero, combine_powers}
use Rattle.flat_modules.proofs.Product.{combine_more}
use Rattle.flat_modules.proofs.Unique.{Reached}
use Rattle.flat_modules.proofs.Rest.{reached_zero, reached_add, reached_scale}
use Rattle.flat_modules.proofs.Lists.{flat_in, flat_first, row_past, listed, combination_room, longest}

module _ {M : Type 0} (R : RingOn M) (w : ℕ) where
  -- rows of which those from `n` on are zero
  abbrev pub Past : ℕ → (ℕ → ℕ → M) → Type 0
  Past n rows = (i t : ℕ) → n ≤ i → rows i t ≡ R.zero

  pub reached_as : (n : ℕ) (rows : ℕ → ℕ → M) (x y : ℕ → M) → ((t : ℕ) → y t ≡ x t) → Reached R n w rows x → Reached R n w rows y
  reached_as n rows x y e s = record { bound = s.bound; by = s.by; is = λ t. e t ∙ s.is t }

  -- no rows reach zero alone
  pub none_reached : (rows : ℕ → ℕ → M) (x : ℕ → M) → Past 0 rows → Reached R 0 w rows x → (t : ℕ) → x t ≡ R.zero
  none_reached rows x past s t =
      s.is t ∙ total_zero R s.bound _ (λ k _. ap (R.mul (s.by k)) (shift_zero R (k / 0 * w) (rows (k % 0)) t (λ j. past (k % 0) j (omega arith))) ∙ mul_zero R (s.by k))

  pub reached_shift : (n e : ℕ) (rows : ℕ → ℕ → M) (x : ℕ → M) → Past n rows → Reached R n w rows x → Reached R n w rows (shift R (e * w) x)
  reached_shift zero e rows x past s = reached_zero R 0 w rows _ (λ t. shift_zero R (e * w) x t (none_reached rows x past s))
  reached_shift (suc n) e rows x past s = record {
    bound = e * suc n + s.bound;
    by = shift R (e * suc n) s.by;
    is = λ t. shift_same R (e * w) x _ t s.is ∙ sym (combine_powers R (suc n) w e s.bound rows s.by t (omega arith));
  }

  module _ (n m : ℕ) (a b : ℕ → ℕ → M) (pa : Past n a) (pb : Past m b) (h : (i : ℕ) → i < n → Reached R m w b (a i)) where
    power_reached : (k : ℕ) → Reached R m w b (powers R n w a k)
    power_reached k = by_bool (nat_lt (k % n) n)
        (λ v. reached_shift m (k / n) b (a (k % n)) pb (h (k % n) (ltb-true (k % n) n v)))
        (λ v. reached_zero R m w b _ (λ t. shift_zero R (k / n * w) (a (k % n)) t (λ j. pa (k % n) j (ltb-false (k % n) n v))))

    sum_reached : (k : ℕ) (c : ℕ → M) → Reached R m w b (combine R k c (powers R n w a))
    sum_reached zero c = reached_zero R m w b _ (λ t. refl)
    sum_reached (suc k) c = reached_add R m w b _ _ (sum_reached k c) (reached_scale R m w b (c k) _ (power_reached k))

    -- what the rows reach is reached by what reaches the rows
    pub reached_into : (x : ℕ → M) → Reached R n w a x → Reached R m w b x
    reached_into x s = reached_as m b (combine R s.bound s.by (powers R n w a)) x s.is (sum_reached s.bound s.by)

module _ {E : Type 0} (r : RingOps E) (h : IsRing r) where
  abbrev R : RingOn (Element r)
  R = elements h

  pub past_rows : (w : ℕ) (rows : List (List E)) (ri : AllIn r (entry r rows)) → Past R w (length rows) (rows_of r (entry r rows) ri)
  past_rows w rows ri i t l = same_element r _ _ (ap (λ u. coeff r u t) (row_past r rows i l))

  -- What is reached by the rows of a list is in their module.
  module _ (w : ℕ) (rows : List (List E)) (ri : are_flat r rows ≡ true) (x : List E) (xi : AreIn r (coeff r x)) where
    abbrev v : ℕ → ℕ → Element r
    v = rows_of r (entry r rows) (flat_in r h rows ri)

    abbrev n : ℕ
    n = length rows

    module _ (s : Reached R n w v (row_of r (coeff r x) xi)) where
      -- the coefficients below the bound
      cut : ℕ → Element r
      cut k = cond (nat_lt k s.bound) (s.by k) R.zero

      cut_low : (k : ℕ) → k < s.bound → cut k ≡ s.by k
      unfolding cut
      cut_low k l = ap (λ b. cond b (s.by k) R.zero) (lt-ltb k s.bound l)

      cut_past : (k : ℕ) → s.bound ≤ k → cut k ≡ R.zero
      unfolding cut
      cut_past k l = ap (λ b. cond b (s.by k) R.zero) (le-ltb k s.bound l)

      poly : ℕ → List E
      poly i = list_of r s.bound (λ e. (cut (e * n + i)).0)

      poly_flat : (i : ℕ) → is_canonical r (poly i) ≡ true
      unfolding poly
      poly_flat i = canonical-list_of r s.bound _ (λ e _. (cut (e * n + i)).1)

      abbrev polys : List (List E)
      polys = first_values n poly

      polys_flat : are_flat r polys ≡ true
      polys_flat = flat_first r n poly poly_flat

      module _ (posn : 0 < n) where
        poly_coeff : (i e : ℕ) → coeff r (poly i) e ≡ (cut (e * n + i)).0
        unfolding poly
        poly_coeff i e = coeff-list_of r h.closed.zero_in h.equal s.bound _ (λ j. (cut (j * n + i)).1)
            (λ j l. ap (λ a. a.0) (cut_past (j * n + i) (let m = le-mul_of_pos_right j posn in omega (arith, m, l)))) e

        listed_is : (k : ℕ) → listed r h w rows polys ri polys_flat k ≡ cut k
        listed_is k = same_element r _ _
            (ap (λ u. coeff r u (k / n)) (at-first_values n poly (k % n) [] (mod-lt k posn)) ∙ poly_coeff (k % n) (k / n)
            ∙ ap (λ j. (cut j).0) (div-add-mod' k n))

        sum_is : (t : ℕ) → coeff r x t ≡ combination r w rows polys t
        sum_is t =
            let room = s.bound + (longest r polys).0 * n in
            ap (λ a. a.0)
            (s.is t ∙ sym (combine_same R s.bound cut _ (powers R n w v) t cut_low)
            ∙ sym (combine_more R s.bound room cut (powers R n w v) t (omega arith) cut_past)
            ∙ sym (combine_same R room _ cut (powers R n w v) t (λ k _. listed_is k)))
            ∙ combination_room r h w rows polys ri polys_flat posn room t (omega arith)

  pub from_reached : (w : ℕ) (rows : List (List E)) (ri : are_flat r rows ≡ true) (x : List E) (xi : AreIn r (coeff r x))
      → Reached R (length rows) w (rows_of r (entry r rows) (flat_in r h rows ri)) (row_of r (coeff r x) xi) → IsInModule r w rows x
  from_reached w [] ri x xi s = record {
    by = [];
    len = refl;
    polys = refl;
    is = λ t. ap (λ a. a.0) (none_reached R w (rows_of r (entry r []) (flat_in r h [] ri)) _ (past_rows w [] (flat_in r h [] ri)) s t);
  }
  from_reached w (y ∷ ys) ri x xi s = record {
    by = polys w (y ∷ ys) ri x xi s;
    len = length-first_values (length (y ∷ ys)) (poly w (y ∷ ys) ri x xi s);
    polys = polys_flat w (y ∷ ys) ri x xi s;
    is = sum_is w (y ∷ ys) ri x xi s (omega arith);
  }
