-- Texts joined by a separator, one after another.
use Rattle.std.proofs.Common.{◌≡◌, ℕ, zero, suc, ◌+◌, ◌<◌, ◌==◌, Bool, true, false, List, [], ◌∷◌, ◌++◌, length, take, map, get_or, refl, ap, sym, ◌∙◌, append_assoc, append-nil, ne_eqb, if◌then◌else◌, arith, codes}
use Rattle.std.specs.List.{flat_map}
use Rattle.std.proofs.lemmas.Bool.{false≢true, true≢false}
use Rattle.std.proofs.lemmas.Grind.{flat_map-append}
use Rattle.std.proofs.lemmas.List.{take_more, map-append}
use Rattle.answer.specs.Sums.{joined, or_zero}

abbrev pub is_none : {A : Type 0} → List A → Bool
is_none [] = true
is_none (x ∷ xs) = false

pub more_left : {A : Type 0} (ts : List A) (t : A) → is_none (ts ++ t ∷ []) ≡ false
more_left [] t = refl
more_left (u ∷ ts) t = refl

-- the texts, with the separator where more follows
abbrev pub before_more : List ℕ → List ℕ → Bool → List ℕ
before_more separator text none = if none then text else text ++ separator

joined_more : (separator : List ℕ) (ts : List (List ℕ)) (t : List ℕ)
    → before_more separator (joined separator ts) (is_none ts) ++ t ≡ joined separator (ts ++ t ∷ [])
joined_more separator [] t = sym (append-nil t)
joined_more separator (u ∷ ts) t =
    let more = flat_map (λ v. separator ++ v) ts in
    append_assoc (u ++ more) separator t
    ∙ append_assoc u more (separator ++ t)
    ∙ ap (λ x. u ++ x) (ap (λ x. more ++ x) (sym (append-nil (separator ++ t))) ∙ sym (flat_map-append (λ v. separator ++ v) ts (t ∷ [])))

moved : (start separator text : List ℕ) (none : Bool) → before_more separator (start ++ text) none ≡ start ++ before_more separator text none
moved start separator text true = refl
moved start separator text false = append_assoc start text separator

-- one more text behind those that stand after `start`
pub text_more : (start separator : List ℕ) (ts : List (List ℕ)) (t text more whole : List ℕ) (none : Bool)
    → text ≡ start ++ joined separator ts → none ≡ is_none ts → more ≡ before_more separator text none → whole ≡ more ++ t
    → whole ≡ start ++ joined separator (ts ++ t ∷ [])
text_more start separator ts t text more whole none is e m w =
    w ∙ ap (λ x. x ++ t) (m ∙ ap (before_more separator text) e ∙ ap (λ x. before_more separator x (is_none ts)) is ∙ moved start separator (joined separator ts) (is_none ts))
    ∙ append_assoc start (before_more separator (joined separator ts) (is_none ts)) t
    ∙ ap (λ x. start ++ x) (joined_more separator ts t)

pub mapped_more : {A B : Type 0} (f : A → B) (xs : List A) (i : ℕ) (x : A) → i < length xs → x ≡ get_or xs i x
    → map f (take i xs) ++ f x ∷ [] ≡ map f (take (i + 1) xs)
mapped_more f xs i x l read =
    ap (λ y. map f (take i xs) ++ f y ∷ []) read ∙ sym (ap (map f) (take_more xs i x l) ∙ map-append f (take i xs) (get_or xs i x ∷ []))

pub none_first : {A B : Type 0} (f : A → B) (xs : List A) (i : ℕ) → i < length xs → (i == 0) ≡ is_none (map f (take i xs))
none_first f xs zero l = refl
none_first f [] (suc i) l = absurd (omega arith)
none_first f (x ∷ xs) (suc i) l = ne_eqb (suc i) 0 (λ e. absurd (omega arith))

pub zero_text : (separator : List ℕ) (ts : List (List ℕ)) → is_none ts ≡ true → or_zero separator ts ≡ codes "0"
zero_text separator [] h = refl
zero_text separator (t ∷ ts) h = absurd (false≢true h)

pub full_text : (separator : List ℕ) (ts : List (List ℕ)) → is_none ts ≡ false → or_zero separator ts ≡ joined separator ts
full_text separator [] h = absurd (true≢false h)
full_text separator (t ∷ ts) h = refl

pub nothing_joined : (start separator : List ℕ) (ts : List (List ℕ)) → is_none ts ≡ true → start ++ joined separator ts ≡ start
nothing_joined start separator [] h = append-nil start
nothing_joined start separator (t ∷ ts) h = absurd (false≢true h)
