-- Coefficients of lists, trimmed lists, and lists made of their coefficients.
use Rattle.std.proofs.Common.{◌≡◌, ◌≢◌, ℕ, zero, suc, ◌+◌, ◌-◌, ◌<◌, ◌≤◌, true, false, not, cond, List, [], ◌∷◌, ◌++◌, length, take, set, get_or, nat_eq, eq-eqb, ne_eqb, ⊎_elim, refl, sym, ◌∙◌, ap, ap₂, arith}
use Rattle.std.proofs.lemmas.Bool.{and_parts, and_from, and_left, and_right, both_ways, not-true, not-false, cases_Bool, cond_both}
use Rattle.std.proofs.lemmas.List.{get_or_past, take_more}
use Rattle.ring_core.specs.Ring.{RingOps, IsElem, SameDecides}
use Rattle.ring_core.specs.Coeffs.{coeff, cons_trimmed, trim, is_trimmed, are_elems, is_canonical, same_lists, first_values, list_of}
use Rattle.ring_core.proofs.FirstValues.{values_pushed, values_same}

module _ {E : Type 0} (r : RingOps E) where
  pub coeff_past : (u : List E) (i : ℕ) → length u ≤ i → coeff r u i ≡ r.zero
  coeff_past u i past = get_or_past u i r.zero past

  -- a zero at the end
  pub coeff_push_zero : (u : List E) (x : E) → x ≡ r.zero → (i : ℕ) → coeff r (u ++ x ∷ []) i ≡ coeff r u i
  coeff_push_zero [] x e zero = e
  coeff_push_zero [] x e (suc i) = refl
  coeff_push_zero (y ∷ ys) x e zero = refl
  coeff_push_zero (y ∷ ys) x e (suc i) = coeff_push_zero ys x e i

  pub elem_read : (u : List E) → IsElem r r.zero → are_elems r u ≡ true → (i : ℕ) → IsElem r (coeff r u i)
  elem_read [] z e i = z
  elem_read (x ∷ xs) z e zero = (and_parts _ _ e).0
  elem_read (x ∷ xs) z e (suc i) = elem_read xs z (and_parts _ _ e).1 i

  pub elems_push : (u : List E) (x : E) → are_elems r u ≡ true → IsElem r x → are_elems r (u ++ x ∷ []) ≡ true
  elems_push [] x e h = and_from _ _ h refl
  elems_push (y ∷ ys) x e h = and_from _ _ (and_parts _ _ e).0 (elems_push ys x (and_parts _ _ e).1 h)

  pub elems_take : (n : ℕ) (u : List E) → are_elems r u ≡ true → are_elems r (take n u) ≡ true
  elems_take zero u e = refl
  elems_take (suc n) [] e = refl
  elems_take (suc n) (x ∷ xs) e = and_from _ _ (and_parts _ _ e).0 (elems_take n xs (and_parts _ _ e).1)

  pub elems-first_values : (n : ℕ) (f : ℕ → E) → ((i : ℕ) → i < n → IsElem r (f i)) → are_elems r (first_values n f) ≡ true
  elems-first_values zero f h = refl
  elems-first_values (suc n) f h =
      and_from _ _ (h 0 (omega arith)) (elems-first_values n (λ i. f (suc i)) (λ i (l : i < n). h (suc i) (omega arith)))

  pub coeff-first_values : (n : ℕ) (f : ℕ → E) → ((i : ℕ) → n ≤ i → f i ≡ r.zero) → (i : ℕ) → coeff r (first_values n f) i ≡ f i
  coeff-first_values zero f past i = sym (past i (omega arith))
  coeff-first_values (suc n) f past zero = refl
  coeff-first_values (suc n) f past (suc i) =
      coeff-first_values n (λ j. f (suc j)) (λ j (l : n ≤ j). past (suc j) (omega arith)) i

  -- a list is made of its coefficients
  pub values-coeff : (u : List E) → first_values (length u) (coeff r u) ≡ u
  values-coeff [] = refl
  values-coeff (x ∷ xs) = ap (λ t. x ∷ t) (values-coeff xs)

  -- a list is told by its length and its coefficients
  pub values_by_coeffs : (u : List E) (n : ℕ) (f : ℕ → E) → length u ≡ n → ((i : ℕ) → i < n → coeff r u i ≡ f i) → u ≡ first_values n f
  values_by_coeffs u n f l e =
      sym (values-coeff u) ∙ ap (λ m. first_values m (coeff r u)) l ∙ values_same n (coeff r u) f e

  pub elems_set : (u : List E) (i : ℕ) (x : E) → are_elems r u ≡ true → IsElem r x → are_elems r (set u i x) ≡ true
  elems_set [] i x e h = refl
  elems_set (y ∷ ys) zero x e h = and_from _ _ h (and_parts _ _ e).1
  elems_set (y ∷ ys) (suc i) x e h = and_from _ _ (and_parts _ _ e).0 (elems_set ys i x (and_parts _ _ e).1 h)

  -- one more value, as a loop pushes it
  pub values_more : (n : ℕ) (f : ℕ → E) (u w : List E) (x : E) → w ≡ u ++ x ∷ [] → u ≡ first_values n f → x ≡ f n → w ≡ first_values (n + 1) f
  values_more n f u w x pushed before is =
      let one_more : suc n ≡ n + 1 = omega arith in
      pushed ∙ ap₂ (λ v y. v ++ y ∷ []) before is ∙ values_pushed n f ∙ ap (λ m. first_values m f) one_more

  pub elems_more : (u w : List E) (x : E) → w ≡ u ++ x ∷ [] → are_elems r u ≡ true → IsElem r x → are_elems r w ≡ true
  elems_more u w x pushed e h = ap (are_elems r) pushed ∙ elems_push u x e h

  -- one more member that was read
  pub elems_read_more : (u : List E) (i : ℕ) (x : E) → i < length u → x ≡ get_or u i x → are_elems r (take i u) ≡ true → IsElem r x → are_elems r (take (i + 1) u) ≡ true
  elems_read_more u i x l read e h =
      elems_more (take i u) (take (i + 1) u) (get_or u i x) (take_more u i x l) e (ap r.is_elem (sym read) ∙ h)

  pub elems_miss : (u : List E) (i : ℕ) (x : E) → i < length u → x ≡ get_or u i x → r.is_elem x ≡ false → are_elems r u ≡ false
  elems_miss [] i x l read miss = absurd (omega arith)
  elems_miss (y ∷ ys) zero x l read miss = and_left _ _ (ap r.is_elem (sym read) ∙ miss)
  elems_miss (y ∷ ys) (suc i) x l read miss = and_right _ _ (elems_miss ys i x (omega arith) read miss)

  -- two lists of one length, compared place by place
  pub same_below : (u v : List E) → length u ≡ length v → ((i : ℕ) → i < length u → r.same (coeff r u i) (coeff r v i) ≡ true) → same_lists r u v ≡ true
  same_below [] [] l e = refl
  same_below [] (y ∷ ys) l e = absurd (omega arith)
  same_below (x ∷ xs) [] l e = absurd (omega arith)
  same_below (x ∷ xs) (y ∷ ys) l e =
      and_from _ _ (e 0 (omega arith)) (same_below xs ys (omega arith) (λ i (m : i < length xs). e (suc i) (omega arith)))

  pub differ_at : (u v : List E) (i : ℕ) → i < length u → length u ≡ length v → r.same (coeff r u i) (coeff r v i) ≡ false → same_lists r u v ≡ false
  differ_at [] v i m l e = absurd (omega arith)
  differ_at (x ∷ xs) [] i m l e = refl
  differ_at (x ∷ xs) (y ∷ ys) zero m l e = and_left _ _ e
  differ_at (x ∷ xs) (y ∷ ys) (suc i) m l e = and_right _ _ (differ_at xs ys i (omega arith) (omega arith) e)

  pub differ_in_length : (u v : List E) → length u ≢ length v → same_lists r u v ≡ false
  differ_in_length [] [] l = absurd (l refl)
  differ_in_length [] (y ∷ ys) l = refl
  differ_in_length (x ∷ xs) [] l = refl
  differ_in_length (x ∷ xs) (y ∷ ys) l = and_right _ _ (differ_in_length xs ys (λ e. l (ap suc e)))

  -- trimming
  trimmed-cons : (x : E) (u : List E) → is_trimmed r u ≡ true → is_trimmed r (cons_trimmed r x u) ≡ true
  trimmed-cons x [] e =
      cond_both (r.same x r.zero) [] (x ∷ []) (λ u. is_trimmed r u ≡ true) (λ s. refl) (λ s. ap not s)
  trimmed-cons x (y ∷ ys) e = e

  pub trimmed-trim : (u : List E) → is_trimmed r (trim r u) ≡ true
  trimmed-trim [] = refl
  trimmed-trim (x ∷ xs) = trimmed-cons x (trim r xs) (trimmed-trim xs)

  elems-cons : (x : E) (u : List E) → IsElem r x → are_elems r u ≡ true → are_elems r (cons_trimmed r x u) ≡ true
  elems-cons x [] h e =
      cond_both (r.same x r.zero) [] (x ∷ []) (λ u. are_elems r u ≡ true) (λ s. refl) (λ s. and_from _ _ h refl)
  elems-cons x (y ∷ ys) h e = and_from _ _ h e

  pub elems-trim : (u : List E) → are_elems r u ≡ true → are_elems r (trim r u) ≡ true
  elems-trim [] e = refl
  elems-trim (x ∷ xs) e = elems-cons x (trim r xs) (and_parts _ _ e).0 (elems-trim xs (and_parts _ _ e).1)

  pub canonical-trim : (u : List E) → are_elems r u ≡ true → is_canonical r (trim r u) ≡ true
  canonical-trim u e = and_from _ _ (elems-trim u e) (trimmed-trim u)

  pub canonical-list_of : (n : ℕ) (f : ℕ → E) → ((i : ℕ) → i < n → IsElem r (f i)) → is_canonical r (list_of r n f) ≡ true
  canonical-list_of n f h = canonical-trim (first_values n f) (elems-first_values n f h)

  trimmed-tail : (x : E) (u : List E) → is_trimmed r (x ∷ u) ≡ true → is_trimmed r u ≡ true
  trimmed-tail x [] e = refl
  trimmed-tail x (y ∷ ys) e = e

  pub trim-trimmed : (u : List E) → is_trimmed r u ≡ true → trim r u ≡ u
  trim-trimmed [] e = refl
  trim-trimmed (x ∷ []) e = ap (λ b. cond b [] (x ∷ [])) (not-true (r.same x r.zero) e)
  trim-trimmed (x ∷ y ∷ ys) e = ap (cons_trimmed r x) (trim-trimmed (y ∷ ys) e)

  pub trim_push : (u : List E) (x : E) → r.same x r.zero ≡ true → trim r (u ++ x ∷ []) ≡ trim r u
  trim_push [] x e = ap (λ b. cond b [] (x ∷ [])) e
  trim_push (y ∷ ys) x e = ap (cons_trimmed r y) (trim_push ys x e)

  pub trimmed_push : (u : List E) (x : E) → r.same x r.zero ≡ false → is_trimmed r (u ++ x ∷ []) ≡ true
  trimmed_push [] x e = ap not e
  trimmed_push (y ∷ []) x e = ap not e
  trimmed_push (y ∷ w ∷ ws) x e = trimmed_push (w ∷ ws) x e

  -- the walk down from the top: a zero there is left out, and the first other element ends it
  trim_below : (u : List E) (n : ℕ) → n < length u → r.same (coeff r u n) r.zero ≡ true → trim r (take n u) ≡ trim r (take (n + 1) u)
  trim_below u n l e = sym (ap (trim r) (take_more u n r.zero l) ∙ trim_push (take n u) (coeff r u n) e)

  trim_stops : (u : List E) (n : ℕ) → n < length u → r.same (coeff r u n) r.zero ≡ false → trim r (take (n + 1) u) ≡ take (n + 1) u
  trim_stops u n l e =
      trim-trimmed (take (n + 1) u) (ap (is_trimmed r) (take_more u n r.zero l) ∙ trimmed_push (take n u) (coeff r u n) e)

  length-cons_trimmed : (x : E) (u : List E) → length (cons_trimmed r x u) ≤ suc (length u)
  length-cons_trimmed x [] =
      cond_both (r.same x r.zero) [] (x ∷ []) (λ u. length u ≤ 1) (λ s. omega arith) (λ s. omega arith)
  length-cons_trimmed x (y ∷ ys) = omega arith

  pub length-trim : (u : List E) → length (trim r u) ≤ length u
  length-trim [] = omega arith
  length-trim (x ∷ xs) = omega (arith, length-cons_trimmed x (trim r xs), length-trim xs)

  pub trim_found : (u : List E) (i : ℕ) → 0 < i → i ≤ length u → r.same (coeff r u (i - 1)) r.zero ≡ false → trim r (take i u) ≡ trim r u → take (i - 1 + 1) u ≡ trim r u
  trim_found u i pos l e before =
      let place : i - 1 + 1 ≡ i = omega arith in
      sym (trim_stops u (i - 1) (omega arith) e) ∙ ap (λ m. trim r (take m u)) place ∙ before

  pub trim_passed : (u : List E) (i : ℕ) → 0 < i → i ≤ length u → r.same (coeff r u (i - 1)) r.zero ≡ true → trim r (take i u) ≡ trim r u → trim r (take (i - 1) u) ≡ trim r u
  trim_passed u i pos l e before =
      let place : i - 1 + 1 ≡ i = omega arith in
      trim_below u (i - 1) (omega arith) e ∙ ap (λ m. trim r (take m u)) place ∙ before

  -- a list is trimmed exactly where trimming leaves its length
  shorter_trim : (x : E) (u : List E) → is_trimmed r (x ∷ u) ≡ false → length (trim r (x ∷ u)) < suc (length u)
  shorter_trim x [] e = rw (not-false (r.same x r.zero) e) (omega arith)
  shorter_trim x (y ∷ ys) e =
      omega (arith, length-cons_trimmed x (trim r (y ∷ ys)), shorter_trim y ys e)

  differs : (u : List E) → is_trimmed r u ≡ false → length (trim r u) ≡ length u → ⊥
  differs [] e l = cc
  differs (x ∷ xs) e l = omega (arith, shorter_trim x xs e)

  pub trimmed_by_length : (u : List E) → nat_eq (length (trim r u)) (length u) ≡ is_trimmed r u
  trimmed_by_length u =
      ⊎_elim
      (λ e. eq-eqb _ _ (ap length (trim-trimmed u e)) ∙ sym e)
      (λ e. ne_eqb _ _ (differs u e) ∙ sym e)
      (cases_Bool (is_trimmed r u))

-- Where `same` decides equality, trimmed lists are told apart by their coefficients.
module _ {E : Type 0} (r : RingOps E) (z : IsElem r r.zero) (d : SameDecides r) where
  zeros : (x : E) → x ≡ r.zero → (i : ℕ) → r.zero ≡ coeff r (x ∷ []) i
  zeros x e zero = sym e
  zeros x e (suc i) = refl

  coeff-cons_trimmed : (x : E) (u : List E) → IsElem r x → (i : ℕ) → coeff r (cons_trimmed r x u) i ≡ coeff r (x ∷ u) i
  coeff-cons_trimmed x [] h i =
      cond_both (r.same x r.zero) [] (x ∷ []) (λ u. coeff r u i ≡ coeff r (x ∷ []) i)
      (λ s. zeros x (d.same_eq x r.zero h z s) i) (λ s. refl)
  coeff-cons_trimmed x (y ∷ ys) h i = refl

  pub coeff-trim : (u : List E) → are_elems r u ≡ true → (i : ℕ) → coeff r (trim r u) i ≡ coeff r u i
  coeff-trim [] e i = refl
  coeff-trim (x ∷ xs) e zero = coeff-cons_trimmed x (trim r xs) (and_parts _ _ e).0 0
  coeff-trim (x ∷ xs) e (suc i) =
      coeff-cons_trimmed x (trim r xs) (and_parts _ _ e).0 (suc i) ∙ coeff-trim xs (and_parts _ _ e).1 i

  pub coeff-list_of : (n : ℕ) (f : ℕ → E) → ((i : ℕ) → IsElem r (f i)) → ((i : ℕ) → n ≤ i → f i ≡ r.zero) → (i : ℕ) → coeff r (list_of r n f) i ≡ f i
  coeff-list_of n f h past i =
      coeff-trim (first_values n f) (elems-first_values r n f (λ j l. h j)) i ∙ coeff-first_values r n f past i

  top_not_zero : (x : E) (u : List E) → is_trimmed r (x ∷ u) ≡ true → ((i : ℕ) → coeff r (x ∷ u) i ≡ r.zero) → ⊥
  top_not_zero x [] e zeros =
      both_ways (r.same x r.zero) (not-true _ e) (ap (λ t. r.same t r.zero) (zeros 0) ∙ d.same_refl r.zero z)
  top_not_zero x (y ∷ ys) e zeros = top_not_zero y ys e (λ i. zeros (suc i))

  pub same_coeffs : (u v : List E) → is_trimmed r u ≡ true → is_trimmed r v ≡ true → ((i : ℕ) → coeff r u i ≡ coeff r v i) → u ≡ v
  same_coeffs [] [] p q e = refl
  same_coeffs [] (y ∷ ys) p q e = absurd (top_not_zero y ys q (λ i. sym (e i)))
  same_coeffs (x ∷ xs) [] p q e = absurd (top_not_zero x xs p e)
  same_coeffs (x ∷ xs) (y ∷ ys) p q e =
      ap₂ ◌∷◌ (e 0) (same_coeffs xs ys (trimmed-tail r x xs p) (trimmed-tail r y ys q) (λ i. e (suc i)))

  pub same_lists-refl : (u : List E) → are_elems r u ≡ true → same_lists r u u ≡ true
  same_lists-refl [] e = refl
  same_lists-refl (x ∷ xs) e =
      and_from _ _ (d.same_refl x (and_parts _ _ e).0) (same_lists-refl xs (and_parts _ _ e).1)

  pub same_lists-eq : (u v : List E) → are_elems r u ≡ true → are_elems r v ≡ true → same_lists r u v ≡ true → u ≡ v
  same_lists-eq [] [] p q s = refl
  same_lists-eq [] (y ∷ ys) p q s = cc
  same_lists-eq (x ∷ xs) [] p q s = cc
  same_lists-eq (x ∷ xs) (y ∷ ys) p q s =
      ap₂ ◌∷◌ (d.same_eq x y (and_parts _ _ p).0 (and_parts _ _ q).0 (and_parts _ _ s).0)
      (same_lists-eq xs ys (and_parts _ _ p).1 (and_parts _ _ q).1 (and_parts _ _ s).1)
