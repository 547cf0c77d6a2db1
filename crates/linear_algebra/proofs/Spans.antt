-- Rows that are combinations of other rows.
use Rattle.std.proofs.Common.{◌≡◌, ℕ, zero, suc, ◌<◌, refl, sym, ◌∙◌, ap, ap₂, arith}
use Rattle.ring_core.proofs.Carrier.{RingOn, add_zero, zero_mul, neg_mul, neg_neg, neg_sum, neg_add}
use Rattle.linear_algebra.proofs.Sums.{combine, unit, total_zero, total_same, unit_combine, combine_add, combine_scale}

-- `x` is a combination of the first `n` rows.
pub record Spans {M : Type 0} (R : RingOn M) (n : ℕ) (rows : ℕ → ℕ → M) (x : ℕ → M) : Type 0 where
  pub by : ℕ → M
  pub is : (j : ℕ) → x j ≡ combine R n by rows j

module _ {M : Type 0} (R : RingOn M) where
  pub minus_self : (a b : M) → a ≡ b → R.add a (R.neg b) ≡ R.zero
  minus_self a b e = ap (λ x. R.add x (R.neg b)) e ∙ R.add_neg b

  -- (a - b) + b = a
  pub minus_plus : (a b : M) → R.add (R.add a (R.neg b)) b ≡ a
  minus_plus a b = R.add_assoc a (R.neg b) b ∙ ap (R.add a) (neg_add R b) ∙ add_zero R a

  -- -a = (-1) a
  pub neg_is : (a : M) → R.neg a ≡ R.mul (R.neg R.one) a
  neg_is a = ap R.neg (sym (R.one_mul a)) ∙ sym (neg_mul R R.one a)

  -- x - (y + (-c) s) = (x - y) + c s
  pub minus_cleared : (x y c s : M) → R.add x (R.neg (R.add y (R.mul (R.neg c) s))) ≡ R.add (R.add x (R.neg y)) (R.mul c s)
  minus_cleared x y c s =
      ap (R.add x) (neg_sum R y _ ∙ ap (R.add (R.neg y)) (ap R.neg (neg_mul R c s) ∙ neg_neg R (R.mul c s)))
      ∙ sym (R.add_assoc x (R.neg y) (R.mul c s))

  -- x - (x - z) = z
  pub minus_minus : (x z : M) → R.add x (R.neg (R.add x (R.neg z))) ≡ z
  minus_minus x z =
      ap (R.add x) (neg_sum R x (R.neg z) ∙ ap (R.add (R.neg x)) (neg_neg R z)) ∙ sym (R.add_assoc x (R.neg x) z)
      ∙ ap (λ a. R.add a z) (R.add_neg x) ∙ R.zero_add z

  pub span_zero : (n : ℕ) (rows : ℕ → ℕ → M) (x : ℕ → M) → ((j : ℕ) → x j ≡ R.zero) → Spans R n rows x
  span_zero n rows x h = record {
    by = λ i. R.zero;
    is = λ j. h j ∙ sym (total_zero R n _ (λ i l. zero_mul R (rows i j)));
  }

  pub span_add : (n : ℕ) (rows : ℕ → ℕ → M) (x y : ℕ → M) → Spans R n rows x → Spans R n rows y → Spans R n rows (λ j. R.add (x j) (y j))
  span_add n rows x y s t = record {
    by = λ i. R.add (s.by i) (t.by i);
    is = λ j. ap₂ R.add (s.is j) (t.is j) ∙ sym (combine_add R n s.by t.by rows j);
  }

  pub span_scale : (n : ℕ) (rows : ℕ → ℕ → M) (a : M) (x : ℕ → M) → Spans R n rows x → Spans R n rows (λ j. R.mul a (x j))
  span_scale n rows a x s = record {
    by = λ i. R.mul a (s.by i);
    is = λ j. ap (R.mul a) (s.is j) ∙ sym (combine_scale R n a s.by rows j);
  }

  -- the same row, told by its members
  pub span_as : (n : ℕ) (rows : ℕ → ℕ → M) (x y : ℕ → M) → ((j : ℕ) → y j ≡ x j) → Spans R n rows x → Spans R n rows y
  span_as n rows x y e s = record { by = s.by; is = λ j. e j ∙ s.is j }

  pub span_neg : (n : ℕ) (rows : ℕ → ℕ → M) (x : ℕ → M) → Spans R n rows x → Spans R n rows (λ j. R.neg (x j))
  span_neg n rows x s = span_as n rows _ _ (λ j. neg_is (x j)) (span_scale n rows (R.neg R.one) x s)

  pub span_minus : (n : ℕ) (rows : ℕ → ℕ → M) (x y : ℕ → M) → Spans R n rows x → Spans R n rows y → Spans R n rows (λ j. R.add (x j) (R.neg (y j)))
  span_minus n rows x y s t = span_add n rows x _ s (span_neg n rows y t)

  pub span_row : (n : ℕ) (rows : ℕ → ℕ → M) (i : ℕ) → i < n → Spans R n rows (rows i)
  span_row n rows i l = record { by = unit R i; is = λ j. sym (unit_combine R n i rows j l) }

  -- a combination of rows that are combinations
  pub span_total : (n m : ℕ) (a b : ℕ → ℕ → M) (c : ℕ → M) → ((i : ℕ) → i < n → Spans R m b (a i)) → Spans R m b (combine R n c a)
  span_total zero m a b c h = span_zero m b _ (λ j. refl)
  span_total (suc n) m a b c h =
      span_add m b _ _ (span_total n m a b c (λ i l. h i (omega arith)))
      (span_scale m b (c n) (a n) (h n (omega arith)))

  pub span_into : (n m : ℕ) (a b : ℕ → ℕ → M) (x : ℕ → M) → ((i : ℕ) → i < n → Spans R m b (a i)) → Spans R n a x → Spans R m b x
  span_into n m a b x h s = span_as m b _ x s.is (span_total n m a b s.by h)

  -- the rows told by their members
  pub span_rows : (n : ℕ) (a b : ℕ → ℕ → M) (x : ℕ → M) → ((i : ℕ) → i < n → (j : ℕ) → a i j ≡ b i j) → Spans R n a x → Spans R n b x
  span_rows n a b x e s = record {
    by = s.by;
    is = λ j. s.is j ∙ total_same R n _ _ (λ i l. ap (R.mul (s.by i)) (e i l j));
  }
