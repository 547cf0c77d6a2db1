-- The terms of a sum, one after another.
use Rattle.std.proofs.Common.{◌≡◌, ℕ, suc, ◌+◌, ◌<◌, Bool, true, false, Some, List, [], ◌∷◌, ◌++◌, length, get_or, ap, sym, ◌∙◌, append-nil, if◌then◌else◌, arith, codes}
use Rattle.std.specs.List.{flat_map}
use Rattle.std.proofs.lemmas.Grind.{flat_map-append}
use Rattle.std.proofs.lemmas.Option.{slice_get-get_or}
use Rattle.ring_core.specs.Coeffs.{first_values}
use Rattle.ring_core.proofs.FirstValues.{values_pushed}
use Rattle.answer.specs.Sums.{Printer, term_text, term_of, term_at, place, first_terms, joined, sum_text}
use Rattle.answer_print.proofs.Joined.{is_none, zero_text, full_text, nothing_joined}

module _ {E : Type 0} (s : Printer E) (letter : List ℕ) (falls : Bool) (list : List E) where
  next_terms : (i : ℕ) → first_terms s letter falls list (i + 1) ≡ first_terms s letter falls list i ++ term_at s letter list (place falls (length list) i)
  next_terms i =
      let at : ℕ → List (List ℕ) = λ j. term_at s letter list (place falls (length list) j) in
      let one_more : i + 1 ≡ suc i = omega arith in
      ap (λ m. flat_map at (first_values m (λ j. j))) one_more
      ∙ ap (flat_map at) (sym (values_pushed i (λ j. j)))
      ∙ flat_map-append at (first_values i (λ j. j)) (i ∷ [])
      ∙ ap (λ x. flat_map at (first_values i (λ j. j)) ++ x) (append-nil (at i))

  read_at : (i k : ℕ) (c : E) → k ≡ place falls (length list) i → k < length list → c ≡ get_or list k c
      → term_at s letter list (place falls (length list) i) ≡ term_of s letter k (Some c)
  read_at i k c e l read =
      ap (term_at s letter list) (sym e) ∙ ap (term_of s letter k) (slice_get-get_or list k c l ∙ ap Some (sym read))

  pub no_term : (i k : ℕ) (c : E) → k ≡ place falls (length list) i → k < length list → c ≡ get_or list k c → s.is_zero c ≡ true
      → first_terms s letter falls list (i + 1) ≡ first_terms s letter falls list i
  no_term i k c e l read zero =
      let terms = first_terms s letter falls list i in
      next_terms i ∙ ap (λ x. terms ++ x) (read_at i k c e l read ∙ ap (λ b. if b then [] else term_text letter (s.text c) k ∷ []) zero)
      ∙ append-nil terms

  pub one_term : (i k : ℕ) (c : E) → k ≡ place falls (length list) i → k < length list → c ≡ get_or list k c → s.is_zero c ≡ false
      → first_terms s letter falls list (i + 1) ≡ first_terms s letter falls list i ++ term_text letter (s.text c) k ∷ []
  one_term i k c e l read nonzero =
      next_terms i
      ∙ ap (λ x. first_terms s letter falls list i ++ x)
      (read_at i k c e l read ∙ ap (λ b. if b then [] else term_text letter (s.text c) k ∷ []) nonzero)

  pub whole_sum : (start separator text : List ℕ) (i : ℕ) → i ≡ length list → text ≡ start ++ joined separator (first_terms s letter falls list i)
      → is_none (first_terms s letter falls list i) ≡ false → text ≡ start ++ sum_text s letter separator falls list
  unfolding sum_text
  whole_sum start separator text i e is some =
      let all = ap (first_terms s letter falls list) e in
      is ∙ ap (λ x. start ++ x) (ap (joined separator) all ∙ sym (full_text separator _ (ap is_none (sym all) ∙ some)))

  pub empty_sum : (start separator text whole : List ℕ) (i : ℕ) → i ≡ length list → text ≡ start ++ joined separator (first_terms s letter falls list i)
      → is_none (first_terms s letter falls list i) ≡ true → whole ≡ text ++ codes "0" → whole ≡ start ++ sum_text s letter separator falls list
  unfolding sum_text
  empty_sum start separator text whole i e is none pushed =
      let terms = first_terms s letter falls list i in
      let all = ap (first_terms s letter falls list) e in
      pushed ∙ ap (λ x. x ++ codes "0") (is ∙ nothing_joined start separator terms none)
      ∙ ap (λ x. start ++ x) (sym (zero_text separator _ (ap is_none (sym all) ∙ none)))
