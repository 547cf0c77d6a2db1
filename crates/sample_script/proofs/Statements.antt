-- The lines of the sample are statements within the limits, and the sample is a script of 26 of them.
use Rattle.std.proofs.Common.{◌≡◌, ◌≢◌, ℕ, suc, ◌+◌, ◌-◌, ◌*◌, ◌%◌, ◌<◌, ◌≤◌, true, false, if◌then◌else◌, None, Some, List, [], ◌∷◌, ◌++◌, length, codes, decimal, refl, sym, ap, ◌∙◌, subst, append_assoc, append-nil, arith, lit≤}
use Rattle.std.specs.Prelude.{nat_lt, nat_le}
use Rattle.std.specs.List.{flat_map, list_all, prefix_len}
use Rattle.std.specs.Option.{option_or}
use Rattle.std.proofs.lemmas.Bool.{and_from, lt-leb}
use Rattle.std.proofs.lemmas.Bool.Decides.{nat_tests}
use Rattle.std.proofs.lemmas.Fmt.{decimal_by_steps}
use Rattle.std.proofs.lemmas.List.Folds.{list_all-append}
use Rattle.ring_core.specs.Coeffs.{first_values}
use Rattle.script_lang.specs.declared.Factor.TheVariants as factor
use Rattle.script_lang.specs.declared.Kind.TheVariants as kind
use Rattle.script_lang.specs.declared.Letter.TheVariants as letter
use Rattle.script_lang.specs.declared.ModArg.TheVariants as module_operand
use Rattle.script_lang.specs.declared.Sign.TheVariants as sign
use Rattle.script_lang.specs.declared.Sum.{Sum}
use Rattle.script_lang.specs.declared.Token.{Token}
use Rattle.script_lang.specs.declared.Token.TheVariants as token
use Rattle.script_lang.specs.Grammar.{deepest, sum_of, term_of, name_of as name_from, IsExponent, IsPlain, IsEnding, IsFactor, IsProduct, IsTerms, IsSum, IsItems, IsList, IsName, IsModOperand}
use Rattle.script_lang.specs.Tokens.{is_word_byte}
use Rattle.script_statement.specs.declared.Form.TheVariants as form
use Rattle.script_statement.specs.declared.Verb.TheVariants as verb
use Rattle.script_statement.specs.declared.ModuleVerb.TheVariants as module_verb
use Rattle.script_statement.specs.declared.PairVerb.TheVariants as pair_verb
use Rattle.script_statement.specs.declared.Relation.TheVariants as relation
use Rattle.script_statement.specs.Statements.{AfterPair, AfterModule, IsOperands, IsVerb}
use Rattle.script_parse.specs.declared.SizeKind.TheVariants as size
use Rattle.script_parse.specs.declared.Statement.{Statement}
use Rattle.script_parse.specs.Exact.{IsExact}
use Rattle.script_parse.specs.Limits.{over_limit, first_limit, line_limit}
use Rattle.script_parse.specs.Scripts.{IsScriptOf}
use Rattle.script_parse.specs.Version.{version_1}
use Rattle.sample_script.specs.Sample.{draw, element, top_element, name_of, module_line, count_line, twelve, sample_text}
use Rattle.sample_script.proofs.Tokens.{word_then}
use Rattle.sample_script.proofs.Lines.{IsLine, is_line, Continues, no_more, line_before, lines_before}
use Rattle.sample_script.proofs.Powers.{EndsPower, IsPowerSum, powers_tokens, element_sum, top_element_sum, sum_are, item_read}
use Rattle.sample_script.proofs.Limits.{two_items_free}
use Rattle.sample_script.proofs.Short.{name_short}

-- The number of a module, in digits.
digit_in_word : (n : ℕ) → n < 10 → is_word_byte (48 + n) ≡ true
digit_in_word n l = grind (arith, nat_tests)

name_word : (k : ℕ) → k < 13 → list_all is_word_byte (decimal k) ≡ true
name_word k l = decimal_by_steps (λ n ds. list_all is_word_byte ds ≡ true) (λ n small. and_from _ _ (digit_in_word n small) refl) more k (omega (arith, l))
  where
    more : (n : ℕ) (ds : List ℕ) → 10 ≤ n → list_all is_word_byte ds ≡ true → list_all is_word_byte (ds ++ ((48 + n % 10) ∷ [])) ≡ true
    more n ds large h =
        let last : n % 10 < 10 = omega arith in
        list_all-append is_word_byte ds ((48 + n % 10) ∷ []) ∙ and_from _ _ h (and_from _ _ (digit_in_word (n % 10) last) refl)

-- A name, and what follows it.
name_then : (k : ℕ) → k < 13 → (rest : List ℕ) {ts : List Token} → prefix_len is_word_byte rest ≡ 0 → IsExact rest ts → IsExact (name_of k ++ rest) (token.Word (name_of k) ∷ ts)
name_then k l rest end x = word_then 109 (decimal k) rest refl (and_from _ _ refl (name_word k l)) end x

name_free : (k : ℕ) → k < 13 → over_limit 32 (length (name_of k)) size.Name ≡ None
name_free k l =
    let few = name_short k l in
    let small : nat_lt 32 (length (name_of k)) ≡ false = grind (arith, nat_tests) in
    ap (λ b. if b then Some size.Name else None) small

-- The line of a module.
module_tokens : ℕ → List ℕ → List ℕ → List Token
module_tokens k ks js =
    token.Word (name_of k) ∷ token.Sign sign.Equals ∷ token.Sign sign.OpenList ∷ token.Letter letter.Z ∷ token.Sign sign.Comma
    ∷ powers_tokens ks (token.Sign sign.Comma ∷ powers_tokens js (token.Sign sign.CloseList ∷ []))

module_are : (k : ℕ) → k < 13 → (x y : List ℕ) (p : IsPowerSum x) (q : IsPowerSum y)
    → IsExact (codes "module " ++ (name_of k ++ (codes " = [z, " ++ (x ++ (codes ", " ++ (y ++ codes "]")))))) (token.Word (codes "module") ∷ module_tokens k p.powers q.powers)
unfolding module_tokens
module_are k l x y p q =
    let ends : EndsPower (codes "]") = record { word = refl; digit = refl } in
    let last : IsExact (y ++ codes "]") (powers_tokens q.powers (token.Sign sign.CloseList ∷ [])) = sum_are y q (codes "]") (token.Sign sign.CloseList ∷ []) ends (IsExact.exact_sign refl IsExact.no_bytes) in
    let behind = codes ", " ++ (y ++ codes "]") in
    let comma : IsExact behind (token.Sign sign.Comma ∷ powers_tokens q.powers (token.Sign sign.CloseList ∷ [])) = IsExact.exact_sign refl (IsExact.blank_byte refl last) in
    let items = sum_are x p behind (token.Sign sign.Comma ∷ powers_tokens q.powers (token.Sign sign.CloseList ∷ [])) (record { word = refl; digit = refl }) comma in
    let list = word_then 122 [] (codes ", " ++ (x ++ behind)) refl refl refl (IsExact.exact_sign refl (IsExact.blank_byte refl items)) in
    let value = IsExact.blank_byte refl (IsExact.exact_sign refl (IsExact.blank_byte refl (IsExact.exact_sign refl list))) in
    word_then 109 (codes "odule") (codes " " ++ (name_of k ++ (codes " = [z, " ++ (x ++ behind)))) refl refl refl (IsExact.blank_byte refl (name_then k l (codes " = [z, " ++ (x ++ behind)) refl value))

module_read : (k : ℕ) (ks js : List ℕ) → (list : List Sum) × IsOperands verb.Module (module_tokens k ks js) (form.Module (name_from (name_of k)) list)
unfolding module_tokens
module_read k ks js =
    let last = item_read js (token.Sign sign.CloseList ∷ []) in
    let middle = item_read ks (token.Sign sign.Comma ∷ powers_tokens js (token.Sign sign.CloseList ∷ [])) in
    let first_item = item_read (1 ∷ []) (token.Sign sign.Comma ∷ powers_tokens ks (token.Sign sign.Comma ∷ powers_tokens js (token.Sign sign.CloseList ∷ []))) in
    (first_item.0 ∷ middle.0 ∷ last.0 ∷ [], IsOperands.new_module IsName.is_word (IsList.has_items (IsItems.and_item first_item.1 (IsItems.and_item middle.1 (IsItems.last_item last.1)))))

module_free : (k : ℕ) → k < 13 → (x y : List ℕ) (p : IsPowerSum x) (q : IsPowerSum y) (s g : ℕ) → s < 1000 → g < 256 → line_limit version_1 s g verb.Module (module_tokens k p.powers q.powers) ≡ None
unfolding module_tokens
module_free k l x y p q s g few free =
    let before = token.Letter letter.Z ∷ token.Sign sign.OpenList ∷ token.Sign sign.Equals ∷ token.Word (name_of k) ∷ [] in
    let rest = two_items_free p.powers q.powers p.below q.below before refl in
    let all : first_limit version_1 verb.Module [] (module_tokens k p.powers q.powers) ≡ None =
    (λ i. option_or (name_free k l i) (rest i)) in
    let statements : nat_le 1000 s ≡ false = lt-leb 1000 s few in
    let names : nat_le 256 g ≡ false = lt-leb 256 g free in
    (λ i. if statements i then Some size.Statements else if names i then Some size.Names else all i)

six_right : (a b c d e f g : List ℕ) → a ++ b ++ c ++ d ++ e ++ f ++ g ≡ a ++ (b ++ (c ++ (d ++ (e ++ (f ++ g)))))
six_right a b c d e f g =
    append_assoc (a ++ b ++ c ++ d ++ e) f g ∙ append_assoc (a ++ b ++ c ++ d) e (f ++ g) ∙ append_assoc (a ++ b ++ c) d (e ++ (f ++ g))
    ∙ append_assoc (a ++ b) c (d ++ (e ++ (f ++ g))) ∙ append_assoc a b (c ++ (d ++ (e ++ (f ++ g))))

module_is_line : (n k : ℕ) → k < 13 → IsLine (module_line n k)
module_is_line n k l =
    let x = element (draw n (2 * k - 1)) in
    let y = top_element (draw n (2 * k)) in
    let p = element_sum (draw n (2 * k - 1)) in
    let q = top_element_sum (draw n (2 * k)) in
    let front = codes "module " ++ name_of k ++ codes " = [z, " ++ x ++ codes ", " ++ y in
    let right = six_right (codes "module ") (name_of k) (codes " = [z, ") x (codes ", ") y in
    let read = module_read k p.powers q.powers in
    let whole = is_line 109 (codes "odule " ++ (name_of k ++ (codes " = [z, " ++ (x ++ (codes ", " ++ (y ++ codes "]")))))) (form.Module (name_from (name_of k)) read.0) refl
    (module_are k l x y p q) (IsVerb.begins refl) read.1 (module_free k l x y p q) in
    subst IsLine (ap (λ t. t ++ 10 ∷ []) (sym (right (codes "]"))) ∙ append_assoc front (codes "]") (10 ∷ [])) whole

-- The line of a count.
count_free : (k : ℕ) → k < 13 → (s g : ℕ) → s < 1000 → g < 256
    → line_limit version_1 s g (verb.OfModule (module_verb.Pair (pair_verb.Relate relation.Fullsize))) (token.Word (name_of k) ∷ token.Word (name_of k) ∷ []) ≡ None
count_free k l s g few free =
    let statements : nat_le 1000 s ≡ false = lt-leb 1000 s few in
    (λ i. if statements i then Some size.Statements else option_or (name_free k l i) (option_or (name_free k l i) None))

count_is_line : (k : ℕ) → k < 13 → IsLine (count_line k)
count_is_line k l =
    let m = name_of k in
    let second : IsExact m (token.Word m ∷ []) = subst (λ q. IsExact q (token.Word m ∷ [])) (append-nil m) (name_then k l [] refl IsExact.no_bytes) in
    let names = name_then k l (codes " " ++ m) refl (IsExact.blank_byte refl second) in
    let are : IsExact (codes "fullsize " ++ (m ++ (codes " " ++ m))) (token.Word (codes "fullsize") ∷ token.Word m ∷ token.Word m ∷ []) =
    word_then 102 (codes "ullsize") (codes " " ++ (m ++ (codes " " ++ m))) refl refl refl (IsExact.blank_byte refl names) in
    let operand = module_operand.Name (name_from m) in
    let whole = is_line 102 (codes "ullsize " ++ (m ++ (codes " " ++ m))) (form.Fullsize operand operand) refl are (IsVerb.begins refl)
    (IsOperands.of_module (IsModOperand.named_module IsName.is_word) (AfterModule.pair (IsModOperand.named_module IsName.is_word) AfterPair.relate)) (count_free k l) in
    let right : codes "fullsize " ++ m ++ codes " " ++ m ≡ codes "fullsize " ++ (m ++ (codes " " ++ m)) =
    append_assoc (codes "fullsize " ++ m) (codes " ") m ∙ append_assoc (codes "fullsize ") m (codes " " ++ m) in
    subst IsLine (ap (λ t. t ++ 10 ∷ []) (sym right)) whole

-- The lines of the field.
base_is_line : IsLine (codes "base 2\n")
base_is_line = is_line 98 (codes "ase 2") (form.Base 2 1 None) refl are (IsVerb.begins refl) IsOperands.prime_base free
  where
    are : IsExact (codes "base 2") (token.Word (codes "base") ∷ token.Number 2 ∷ [])
    are = IsExact.exact_word refl (IsExact.blank_byte refl (IsExact.exact_number refl IsExact.no_bytes))

    free : (s g : ℕ) → s < 1000 → g < 256 → line_limit version_1 s g verb.Base (token.Number 2 ∷ []) ≡ None
    free s g few names = let statements : nat_le 1000 s ≡ false = lt-leb 1000 s few in ap (λ b. if b then Some size.Statements else None) statements

-- The modulus of the field, and its tokens.
abbrev plus : List Token → List Token
plus rest = token.Sign sign.Plus ∷ rest

abbrev z_power : ℕ → List Token → List Token
z_power k rest = token.Letter letter.Z ∷ token.Sign sign.Caret ∷ token.Number k ∷ rest

abbrev modulus_tokens : List Token
modulus_tokens = z_power 8 (plus (z_power 4 (plus (z_power 3 (plus (token.Letter letter.Z ∷ plus (token.Number 1 ∷ [])))))))

abbrev modulus : Sum
modulus = sum_of (term_of false [] 8 ∷ term_of false [] 4 ∷ term_of false [] 3 ∷ term_of false [] 1 ∷ term_of false (factor.Number 1 ∷ []) 0 ∷ [])

over_is_line : IsLine (codes "over 8 z^8+z^4+z^3+z+1\n")
over_is_line = is_line 111 (codes "ver 8 z^8+z^4+z^3+z+1") (form.Over 8 modulus) refl are (IsVerb.begins refl) (IsOperands.top (not_zero 7) read) free
  where
    not_zero : (n : ℕ) → suc n ≢ 0
    not_zero n e = omega (arith, e)

    are : IsExact (codes "over 8 z^8+z^4+z^3+z+1") (token.Word (codes "over") ∷ token.Number 8 ∷ modulus_tokens)
    are =
        IsExact.exact_word refl (IsExact.blank_byte refl (IsExact.exact_number refl (IsExact.blank_byte refl (
        IsExact.exact_word refl (IsExact.exact_sign refl (IsExact.exact_number refl (IsExact.exact_sign refl (
        IsExact.exact_word refl (IsExact.exact_sign refl (IsExact.exact_number refl (IsExact.exact_sign refl (
        IsExact.exact_word refl (IsExact.exact_sign refl (IsExact.exact_number refl (IsExact.exact_sign refl (
        IsExact.exact_word refl (IsExact.exact_sign refl (IsExact.exact_number refl IsExact.no_bytes))))))))))))))))))

    read : IsSum kind.TopModulus deepest false modulus_tokens [] modulus
    read = IsSum.has_terms (IsTerms.and_term {next = false} (IsProduct.ended (IsEnding.is_ending refl IsExponent.present))
        (IsTerms.and_term {next = false} (IsProduct.ended (IsEnding.is_ending refl IsExponent.present))
        (IsTerms.and_term {next = false} (IsProduct.ended (IsEnding.is_ending refl IsExponent.present))
        (IsTerms.and_term {next = false} (IsProduct.ended (IsEnding.is_ending refl IsExponent.absent))
        (IsTerms.last_term (IsProduct.last_factor (IsFactor.is_plain IsPlain.is_number)))))))

    free : (s g : ℕ) → s < 1000 → g < 256 → line_limit version_1 s g verb.Over (token.Number 8 ∷ modulus_tokens) ≡ None
    free s g few names = let statements : nat_le 1000 s ≡ false = lt-leb 1000 s few in ap (λ b. if b then Some size.Statements else None) statements

pub sample_is_script : (n : ℕ) → (list : List Statement) × IsScriptOf (sample_text n) list × (length list ≡ 26)
unfolding sample_text twelve
sample_is_script n =
    let ks = first_values 12 suc in
    let counts : Continues (flat_map count_line ks ++ []) 12 = lines_before count_line count_is_line ks refl [] 0 no_more in
    let modules : Continues (flat_map (module_line n) ks ++ (flat_map count_line ks ++ [])) 24 =
    lines_before (module_line n) (module_is_line n) ks refl (flat_map count_line ks ++ []) 12 counts in
    let over = line_before (codes "over 8 z^8+z^4+z^3+z+1\n") (flat_map (module_line n) ks ++ (flat_map count_line ks ++ [])) 24 over_is_line modules in
    let all = line_before (codes "base 2\n") (codes "over 8 z^8+z^4+z^3+z+1\n" ++ (flat_map (module_line n) ks ++ (flat_map count_line ks ++ []))) 25 base_is_line over in
    let head = codes "base 2\nover 8 z^8+z^4+z^3+z+1\n" in
    let same : head ++ (flat_map (module_line n) ks ++ (flat_map count_line ks ++ [])) ≡ sample_text n =
    ap (λ q. head ++ (flat_map (module_line n) ks ++ q)) (append-nil (flat_map count_line ks)) ∙ sym (append_assoc head (flat_map (module_line n) ks) (flat_map count_line ks)) in
    let whole : Continues (sample_text n) 26 = subst (λ q. Continues q 26) same all in
    whole 1 0 0 0 (lit≤ tt) (lit≤ tt)
