-- A field over a base: sums of powers with coefficients in the base, told by their coordinates.
use Rattle.std.proofs.Common.{◌≡◌, ℕ, zero, suc, ◌<◌, ◌≤◌, ◌⊎◌, Option, true, sym, ◌∙◌, ap, ap₂, ⊎_elim, arith}
use Rattle.std.proofs.lemmas.Bool.{cases_lt}
use Rattle.ring_core.specs.Ring.{RingOps}
use Rattle.ring_core.specs.Field.{IsField, FrobOps, IsFrobField}
use Rattle.ring_core.specs.Coeffs.{coeff, are_elems, first_values}
use Rattle.ring_core.proofs.Carrier.{RingOn, Element, same_element, elements, add_zero, zero_mul, mul_zero, neg_add, zero_only}
use Rattle.ring_core.proofs.Coefficients.{coeff_past, elem_read, elems-first_values}
use Rattle.ring_core.proofs.FirstValues.{length-first_values, at-first_values}
use Rattle.ring_core.proofs.Twist.{embed_one}
use Rattle.ring_core.proofs.Series.{total}
use Rattle.linear_algebra.proofs.Sums.{combine, total_same, total_zero, total_add, total_rest}
use Rattle.linear_algebra.proofs.Augment.{Depends, zero_from}

-- `embed` takes the base `S` into `R`; the coordinates over `S` are linear and tell the elements of `R` apart.
pub record IsOver {M N : Type 0} (S : RingOn M) (R : RingOn N) (embed : M → N) (coord : N → ℕ → M) : Type 0 where
  pub one : embed S.one ≡ R.one
  pub add : (a b : M) → embed (S.add a b) ≡ R.add (embed a) (embed b)
  pub coord_add : (a b : N) (j : ℕ) → coord (R.add a b) j ≡ S.add (coord a j) (coord b j)
  pub coord_scale : (b : M) (a : N) (j : ℕ) → coord (R.mul (embed b) a) j ≡ S.mul b (coord a j)
  pub coord_inj : (a b : N) → ((j : ℕ) → coord a j ≡ coord b j) → a ≡ b

-- an additive map takes zero to zero
additive_zero : {M N : Type 0} (S : RingOn M) (R : RingOn N) (g : M → N) → ((a b : M) → g (S.add a b) ≡ R.add (g a) (g b)) → g S.zero ≡ R.zero
additive_zero S R g keeps = zero_only R (g S.zero) (sym (keeps S.zero S.zero) ∙ ap g (S.zero_add S.zero))

-- The sum of `u i` times `p i` over `i` below `n`.
abbrev pub weighted : {M N : Type 0} → RingOn N → (M → N) → (ℕ → N) → ℕ → (ℕ → M) → N
weighted R embed p n u = total R n (λ i. R.mul (embed (u i)) (p i))

module _ {M N : Type 0} (S : RingOn M) (R : RingOn N) (embed : M → N) (coord : N → ℕ → M) (over : IsOver S R embed coord) (p : ℕ → N) where
  coord_zero : (j : ℕ) → coord R.zero j ≡ S.zero
  coord_zero j = additive_zero R S (λ a. coord a j) (λ a b. over.coord_add a b j)

  weighted_add : (n : ℕ) (u v : ℕ → M) → weighted R embed p n (λ i. S.add (u i) (v i)) ≡ R.add (weighted R embed p n u) (weighted R embed p n v)
  weighted_add n u v =
      total_same R n _ _ (λ i l. ap (λ a. R.mul a (p i)) (over.add (u i) (v i)) ∙ R.add_mul (embed (u i)) (embed (v i)) (p i))
      ∙ total_add R n (λ i. R.mul (embed (u i)) (p i)) (λ i. R.mul (embed (v i)) (p i))

  term_zero : (u : ℕ → M) (i : ℕ) → u i ≡ S.zero → R.mul (embed (u i)) (p i) ≡ R.zero
  term_zero u i e = ap (λ a. R.mul a (p i)) (ap embed e ∙ additive_zero S R embed over.add) ∙ zero_mul R (p i)

  coord_weighted : (n : ℕ) (u : ℕ → M) (j : ℕ) → coord (weighted R embed p n u) j ≡ combine S n u (λ i. coord (p i)) j
  coord_weighted zero u j = coord_zero j
  coord_weighted (suc n) u j =
      over.coord_add (weighted R embed p n u) (R.mul (embed (u n)) (p n)) j
      ∙ ap₂ S.add (coord_weighted n u j) (over.coord_scale (u n) (p n) j)

  -- where `p k` is a combination of the members before it, its negative coefficients with one after them give zero
  pub relation_zero : (k : ℕ) (d a : ℕ → M) → ((j : ℕ) → coord (p k) j ≡ combine S k d (λ i. coord (p i)) j) → ((i : ℕ) → i < k → a i ≡ S.neg (d i)) → a k ≡ S.one → weighted R embed p (suc k) a ≡ R.zero
  relation_zero k d a is low top =
      let sum : p k ≡ weighted R embed p k d = over.coord_inj (p k) (weighted R embed p k d) (λ j. is j ∙ sym (coord_weighted k d j)) in
      ap (R.add (weighted R embed p k a)) (ap (λ x. R.mul x (p k)) (ap embed top ∙ over.one) ∙ R.one_mul (p k) ∙ sum)
      ∙ sym (weighted_add k a d)
      ∙ total_zero R k _ (λ i l. term_zero (λ m. S.add (a m) (d m)) i (ap (λ x. S.add x (d i)) (low i l) ∙ neg_add S (d i)))

  -- where no member is a combination of those before it, only the coefficients zero give zero
  pub all_zero : ((a : M) → (a ≡ S.zero) ⊎ ((b : M) × (S.mul b a ≡ S.one))) → (n : ℕ) (u : ℕ → M) → weighted R embed p n u ≡ R.zero → ((i : ℕ) → i < n → Depends S (λ m. coord (p m)) i → ⊥) → ((i : ℕ) → n ≤ i → u i ≡ S.zero) → (i : ℕ) → u i ≡ S.zero
  all_zero inverses n u root none past =
      zero_from S inverses n (λ m. coord (p m)) u
      (λ j. sym (coord_weighted n u j) ∙ ap (λ a. coord a j) root ∙ coord_zero j) (λ i l depends. absurd (none i l depends)) n
      (omega arith) past

  -- more terms, whose coefficients are zero
  pub weighted_more : (n m : ℕ) (u : ℕ → M) → n ≤ m → ((i : ℕ) → n ≤ i → u i ≡ S.zero) → weighted R embed p m u ≡ weighted R embed p n u
  weighted_more n m u l past = total_rest R n m _ l (λ i low high. term_zero u i (past i low))

  -- what is left of two sums that are zero
  pub difference_zero : (n : ℕ) (a b d : ℕ → M) → ((i : ℕ) → S.add (d i) (b i) ≡ a i) → weighted R embed p n a ≡ R.zero → weighted R embed p n b ≡ R.zero → weighted R embed p n d ≡ R.zero
  difference_zero n a b d is left right =
      sym (add_zero R (weighted R embed p n d)) ∙ ap (R.add (weighted R embed p n d)) (sym right) ∙ sym (weighted_add n d b)
      ∙ total_same R n _ _ (λ i l. ap (λ x. R.mul (embed x) (p i)) (is i)) ∙ left

module _ {E B : Type 0} (r : RingOps E) (inv : E → Option E) (base : RingOps B) (base_inv : B → Option B) (f : FrobOps E B) (k : IsField r inv) (kb : IsField base base_inv) (l : IsFrobField r base f) where
  -- The elements of the base as elements of the field.
  abbrev pub embedded : Element base → Element r
  embedded b = (f.embed b.0, l.embed_in b.0 b.1)

  pub coords_elems : (c : Element r) → are_elems base (first_values f.degree (f.coord c.0)) ≡ true
  coords_elems c = elems-first_values base f.degree (f.coord c.0) (λ j low. l.coord_in c.0 j c.1 low)

  -- The coordinates as elements of the base, zero from the degree on.
  abbrev pub coords : Element r → ℕ → Element base
  coords c j =
      (coeff base (first_values f.degree (f.coord c.0)) j, elem_read base (first_values f.degree (f.coord c.0)) kb.ring.closed.zero_in (coords_elems c) j)

  coords-low : (c : Element r) (j : ℕ) → j < f.degree → (coords c j).0 ≡ f.coord c.0 j
  coords-low c j low = at-first_values f.degree (f.coord c.0) j base.zero low

  coords-past : (c : Element r) (j : ℕ) → f.degree ≤ j → coords c j ≡ (elements kb.ring).zero
  coords-past c j past =
      same_element base (coords c j) (elements kb.ring).zero
      (coeff_past base (first_values f.degree (f.coord c.0)) j (omega (arith, length-first_values f.degree (f.coord c.0), past)))

  coords-add : (a b : Element r) (j : ℕ) → coords ((elements k.ring).add a b) j ≡ (elements kb.ring).add (coords a j) (coords b j)
  coords-add a b j =
      ⊎_elim
      (λ (low : j < f.degree).
      same_element base _ _
      (coords-low ((elements k.ring).add a b) j low ∙ l.coord_add a.0 b.0 j a.1 b.1 low
      ∙ ap₂ base.add (sym (coords-low a j low)) (sym (coords-low b j low))))
      (λ (past : f.degree ≤ j).
      coords-past ((elements k.ring).add a b) j past ∙ sym ((elements kb.ring).zero_add (elements kb.ring).zero)
      ∙ ap₂ (elements kb.ring).add (sym (coords-past a j past)) (sym (coords-past b j past)))
      (cases_lt j f.degree)

  coords-scale : (b : Element base) (c : Element r) (j : ℕ) → coords ((elements k.ring).mul (embedded b) c) j ≡ (elements kb.ring).mul b (coords c j)
  coords-scale b c j =
      ⊎_elim
      (λ (low : j < f.degree).
      same_element base _ _
      (coords-low ((elements k.ring).mul (embedded b) c) j low ∙ l.coord_scale b.0 c.0 j b.1 c.1 low
      ∙ ap (base.mul b.0) (sym (coords-low c j low))))
      (λ (past : f.degree ≤ j).
      coords-past ((elements k.ring).mul (embedded b) c) j past ∙ sym (mul_zero (elements kb.ring) b)
      ∙ ap ((elements kb.ring).mul b) (sym (coords-past c j past)))
      (cases_lt j f.degree)

  coords-inj : (a b : Element r) → ((j : ℕ) → coords a j ≡ coords b j) → a ≡ b
  coords-inj a b e =
      same_element r a b
      (l.coord_inj a.0 b.0 a.1 b.1 (λ j low. sym (coords-low a j low) ∙ ap (λ x. x.0) (e j) ∙ coords-low b j low))

  embedded-add : (a b : Element base) → embedded ((elements kb.ring).add a b) ≡ (elements k.ring).add (embedded a) (embedded b)
  embedded-add a b = same_element r _ _ (l.embed_add a.0 b.0 a.1 b.1)

  embedded-one : embedded (elements kb.ring).one ≡ (elements k.ring).one
  embedded-one = same_element r _ _ (embed_one r inv base base_inv f k kb l)

  pub is_over : IsOver (elements kb.ring) (elements k.ring) embedded coords
  is_over = record {
    one = embedded-one;
    add = embedded-add;
    coord_add = coords-add;
    coord_scale = coords-scale;
    coord_inj = coords-inj;
  }
