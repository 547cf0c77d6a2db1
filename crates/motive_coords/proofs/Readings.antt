-- What an additive map reads of digits: coordinates over the field are read of coefficients, and those over the base
-- of the base coordinates of coefficients.
use Rattle.std.proofs.Common.{◌≡◌, ℕ, zero, suc, ◌≤◌, sym, ◌∙◌, ap, arith}
use mathlib.Core.Path.{fun_ext}
use Rattle.ring_core.proofs.Carrier.{RingOn, add_zero, mul_zero, zero_only}
use Rattle.ring_core.proofs.Series.{total, total_first}
use Rattle.linear_algebra.proofs.Sums.{total_zero}
use Rattle.finite_ring.proofs.Powers.{power}
use Rattle.euclid_theory.proofs.Sizes.{HasSizes}
use Rattle.relation_theory.proofs.Gauss.{cauchy_product, product_zero}
use Rattle.relation_theory.proofs.Relations.{before}
use Rattle.motive_coords.proofs.Digits.{digits, digits_past, digits_add, digits_shift, digits_left}

-- `w` behind `i` zeros.
abbrev pub moved_up : {M : Type 0} → RingOn M → ℕ → (ℕ → M) → ℕ → M
moved_up R zero w = w
moved_up R (suc i) w = before R.zero (moved_up R i w)

-- A product as the sum of the multiples of its right factor, each moved up.
pub shifts_product : {M : Type 0} (R : RingOn M) (n : ℕ) (a w : ℕ → M) → ((i : ℕ) → n ≤ i → a i ≡ R.zero) → (e : ℕ) → total R n (λ i. R.mul (a i) (moved_up R i w e)) ≡ cauchy_product R a w e
shifts_product R zero a w past e =
    sym (product_zero R e a w (λ i. past i (omega arith)))
shifts_product R (suc n) a w past zero =
    total_first R n (λ i. R.mul (a i) (moved_up R i w 0))
    ∙ ap (R.add (R.mul (a 0) (w 0))) (total_zero R n _ (λ i l. mul_zero R (a (suc i)))) ∙ add_zero R _
shifts_product R (suc n) a w past (suc e) =
    total_first R n (λ i. R.mul (a i) (moved_up R i w (suc e)))
    ∙ ap (R.add (R.mul (a 0) (w (suc e)))) (shifts_product R n (λ i. a (suc i)) w (λ i l. past (suc i) (omega arith)) e)

module _ {N M : Type 0} (S : RingOn N) (T : RingOn M) (size : N → ℕ) (h : HasSizes S size) (b : N) (d : ℕ) (degree : size b ≡ suc d) (pos : 1 ≤ d)
    (read : N → M) (additive : (u v : N) → read (S.add u v) ≡ T.add (read u) (read v)) where
  -- What is read of digit `e`.
  abbrev at : N → ℕ → M
  at u e = read (digits S size h b d degree pos u e)

  pub read_zero : read S.zero ≡ T.zero
  read_zero = zero_only T (read S.zero) (sym (additive S.zero S.zero) ∙ ap read (S.zero_add S.zero))

  pub at_past : (u : N) (e : ℕ) → size u ≤ e → at u e ≡ T.zero
  at_past u e m = ap read (digits_past S size h b d degree pos u e m) ∙ read_zero

  pub at_add : (u v : N) (e : ℕ) → at (S.add u v) e ≡ T.add (at u e) (at v e)
  at_add u v e = ap read (digits_add S size h b d degree pos u v e) ∙ additive _ _

  pub at_total : (n : ℕ) (g : ℕ → N) (e : ℕ) → at (total S n g) e ≡ total T n (λ i. at (g i) e)
  at_total zero g e = at_past S.zero e (let none = h.none in omega (arith, none))
  at_total (suc n) g e = at_add (total S n g) (g n) e ∙ ap (λ t. T.add t (at (g n) e)) (at_total n g e)

  -- multiplication by `c` on the left, where it keeps digits
  pub at_left : (c u : N) (a : M) → ((x : N) → size x ≤ d → size (S.mul c x) ≤ d) → ((x : N) → read (S.mul c x) ≡ T.mul a (read x)) → (e : ℕ) → at (S.mul c u) e ≡ T.mul a (at u e)
  at_left c u a keeps reads e = ap read (digits_left S size h b d degree pos c u keeps e) ∙ reads _

  -- multiplication by `b` on the right moves up
  pub at_shift : (u : N) (e : ℕ) → at (S.mul u b) e ≡ before T.zero (at u) e
  at_shift u zero = ap read (digits_shift S size h b d degree pos u 0) ∙ read_zero
  at_shift u (suc e) = ap read (digits_shift S size h b d degree pos u (suc e))

  pub at_power : (u : N) (i e : ℕ) → at (S.mul u (power S b i)) e ≡ moved_up T i (at u) e
  at_power u zero e = ap (λ t. at t e) (S.mul_one u)
  at_power u (suc i) e =
      ap (λ t. at t e) (sym (S.mul_assoc u (power S b i) b)) ∙ at_shift (S.mul u (power S b i)) e
      ∙ ap (λ t. before T.zero t e) (fun_ext (at_power u i))
