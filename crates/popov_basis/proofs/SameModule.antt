-- Rows that came about by turns reach the same rows as before, and are reached by them.
use Rattle.std.proofs.Common.{◌≡◌, ◌≢◌, ℕ, suc, ◌*◌, ◌<◌, ◌≤◌, inl, inr, List, length, refl, sym, ◌∙◌, ap, ap₂, arith}
use Rattle.ring_core.specs.Ring.{RingOps, IsElem, IsRing}
use Rattle.ring_core.proofs.Carrier.{RingOn, Element, elements, same_element, add_zero, neg_mul}
use Rattle.ring_core.proofs.Coefficients.{coeff_past}
use Rattle.linear_algebra.specs.Linear.{row_at, entry}
use Rattle.linear_algebra.proofs.Sums.{same_or_other}
use Rattle.linear_algebra.proofs.Lift.{AllIn, rows_of}
use Rattle.flat_modules.proofs.Lists.{shift_value}
use Rattle.flat_modules.proofs.Shift.{shift, shift_same}
use Rattle.flat_modules.proofs.Unique.{Reached, spans_row}
use Rattle.flat_modules.proofs.Rest.{reached, reached_zero, reached_add, reached_scale, reached_row}
use Rattle.flat_modules.proofs.Module.{reached_as, reached_into, past_rows}
use Rattle.flat_reduce.specs.steps.Turns.{IsRowAdded, Turns, none, turn}
use Rattle.popov_basis.specs.steps.Leading.{IsLeading}
use Rattle.flat_reduce.proofs.Reduced.{added_in}

module _ {M : Type 0} (R : RingOn M) (w : ℕ) where
  pub reached_itself : (n : ℕ) (rows : ℕ → ℕ → M) (i : ℕ) → i < n → Reached R n w rows (rows i)
  reached_itself n rows i l = reached R n w rows (suc i) (rows i) (spans_row R n w rows (suc i) i l (omega arith))

  -- (x + c s) + (-c) s = x
  pub undone : (x c s : M) → R.add (R.add x (R.mul c s)) (R.mul (R.neg c) s) ≡ x
  undone x c s = R.add_assoc x (R.mul c s) (R.mul (R.neg c) s) ∙ ap (R.add x) (ap (R.add (R.mul c s)) (neg_mul R c s) ∙ R.add_neg (R.mul c s)) ∙ add_zero R x

  -- row `p` of `b` is row `p` of `a` and a multiple of another row
  pub reached_added : (n p q e : ℕ) (c : M) (a b : ℕ → ℕ → M) → q < n → ((t : ℕ) → b p t ≡ R.add (a p t) (R.mul c (shift R (e * w) (a q) t))) → ((i t : ℕ) → i ≢ p → b i t ≡ a i t)
      → (i : ℕ) → i < n → Reached R n w a (b i)
  reached_added n p q e c a b lq here rest i l = elim (same_or_other i p) [
    | inl is ↦
        reached_as R w n a _ (b i) (λ t. ap (λ k. b k t) is ∙ here t ∙ ap (λ k. R.add (a k t) (R.mul c (shift R (e * w) (a q) t))) (sym is))
        (reached_add R n w a _ _ (reached_itself n a i l) (reached_scale R n w a c _ (reached_row R n w a q e lq)))
    | inr ne ↦ reached_as R w n a (a i) (b i) (λ t. rest i t ne) (reached_itself n a i l)
  ]

module _ {E : Type 0} (r : RingOps E) (h : IsRing r) (w : ℕ) where
  abbrev R : RingOn (Element r)
  R = elements h

  -- each row of `a` is reached by the rows of `b`
  abbrev pub Reaches : (b a : List (List E)) → AllIn r (entry r b) → AllIn r (entry r a) → Type 0
  Reaches b a bi ai = (i : ℕ) → i < length a → Reached R (length b) w (rows_of r (entry r b) bi) (rows_of r (entry r a) ai i)

  pub reaches_all : (b a : List (List E)) (bi : AllIn r (entry r b)) (ai : AllIn r (entry r a)) → Reaches b a bi ai → (x : ℕ → Element r) → Reached R (length a) w (rows_of r (entry r a) ai) x → Reached R (length b) w (rows_of r (entry r b) bi) x
  reaches_all b a bi ai s x = reached_into R w (length a) (length b) (rows_of r (entry r a) ai) (rows_of r (entry r b) bi) (past_rows r h w a ai) (past_rows r h w b bi) s x

  -- the rows of `b` reach what those of `a` do, and the other way round
  pub record SameModule (a b : List (List E)) (ai : AllIn r (entry r a)) : Type 0 where
    pub bi : AllIn r (entry r b)
    pub len : length b ≡ length a
    pub into : Reaches a b ai bi
    pub back : Reaches b a bi ai

  pub same_none : (a : List (List E)) (ai : AllIn r (entry r a)) → SameModule a a ai
  same_none a ai = record {
    bi = ai;
    len = refl;
    into = λ i l. reached_itself R w (length a) (rows_of r (entry r a) ai) i l;
    back = λ i l. reached_itself R w (length a) (rows_of r (entry r a) ai) i l;
  }

  pub same_more : (a b c : List (List E)) (ai : AllIn r (entry r a)) (s : SameModule a b ai) → SameModule b c s.bi → SameModule a c ai
  same_more a b c ai s t = record {
    bi = t.bi;
    len = t.len ∙ s.len;
    into = λ i l. reaches_all a b ai s.bi s.into _ (t.into i l);
    back = λ i l. reaches_all c b t.bi s.bi t.back _ (s.back i l);
  }

  pub same_added : (p q e : ℕ) (c : E) (a b : List (List E)) (ai : AllIn r (entry r a)) → IsElem r c → q < length a → p ≢ q → IsRowAdded r p q (e * w) c a b → SameModule a b ai
  same_added p q e c a b ai ci lq ne added =
      let bi = added_in r h p q (e * w) c a b ai ci added in
      let A = rows_of r (entry r a) ai in
      let B = rows_of r (entry r b) bi in
      let n = length a in
      let k : Element r = (c, ci) in
      let count = added.len in
      let here : (t : ℕ) → B p t ≡ R.add (A p t) (R.mul k (shift R (e * w) (A q) t)) = λ t.
      same_element r _ _ (added.here t ∙ ap (λ v. r.add (entry r a p t) (r.mul c v)) (sym (shift_value r h (e * w) (A q) t))) in
      let rest : (i t : ℕ) → i ≢ p → B i t ≡ A i t = λ i t d. same_element r _ _ (added.rest i t d) in
      let there : (t : ℕ) → A p t ≡ R.add (B p t) (R.mul (R.neg k) (shift R (e * w) (B q) t)) = λ t.
      sym (ap₂ (λ x s. R.add x (R.mul (R.neg k) s)) (here t) (shift_same R (e * w) (B q) (A q) t (λ j. rest q j (λ z. ne (sym z)))) ∙ undone R w (A p t) k (shift R (e * w) (A q) t)) in
      let back = reached_added R w (length b) p q e (R.neg k) B A (omega (arith, lq, count)) there (λ i t d. sym (rest i t d)) in
      record {
        bi = bi;
        len = count;
        into = λ i l. reached_added R w n p q e k A B lq here rest i (omega (arith, l, count));
        back = λ i l. back i (omega (arith, l, count));
      }

  pub same_turns : (n : ℕ) (a left columns b left2 columns2 : List (List E)) (ai : AllIn r (entry r a)) → n ≡ length a → Turns r w n a left columns b left2 columns2 → SameModule a b ai
  same_turns n a left columns b left2 columns2 ai whole none = same_none a ai
  same_turns n a left columns b left2 columns2 ai whole (turn p q x y z u v t lp lq ne before last) =
      let s = same_turns n a left columns x y z ai whole before in
      let count = s.len in
      same_more a x u ai s (same_added p q last.power last.factor x u s.bi last.elem (omega (arith, lq, whole, count)) ne last.images)

  -- the rows over their tops
  module _ (image list : List (List E)) (above : ℕ) (ii : AllIn r (entry r image)) (li : AllIn r (entry r list)) (s : IsLeading r image above list) where
    pub leading_into : Reaches image list ii li
    leading_into j l =
        let o = s.source j l in
        let m = o.is.multiple in
        reached_as R w (length image) (rows_of r (entry r image) ii) _ (rows_of r (entry r list) li j) (λ t. same_element r _ _ (m.is t))
        (reached_scale R (length image) w (rows_of r (entry r image) ii) (m.factor, m.elem) _ (reached_itself R w (length image) (rows_of r (entry r image) ii) o.row o.is.within))

    pub leading_back : ((k : ℕ) → length (row_at image k) ≤ above) → Reaches list image li ii
    leading_back all i l = elim (same_or_other (length (row_at image i)) 0) [
      | inl e ↦ reached_zero R (length list) w (rows_of r (entry r list) li) _ (λ t. same_element r _ _ (coeff_past r (row_at image i) t (omega (arith, e))))
      | inr ne ↦
          let o = s.listed i (omega (arith, ne)) (all i) in
          let m = o.is.multiple in
          reached_as R w (length list) (rows_of r (entry r list) li) _ (rows_of r (entry r image) ii i) (λ t. same_element r _ _ (m.back t))
          (reached_scale R (length list) w (rows_of r (entry r list) li) (m.top, m.top_elem) _ (reached_itself R w (length list) (rows_of r (entry r list) li) o.row o.is.listed))
    ]
