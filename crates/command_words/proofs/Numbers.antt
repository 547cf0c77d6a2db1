-- The number of the sample passed the range of its option.
use Rattle.std.proofs.Common.{◌≡◌, ℕ, zero, suc, ◌<◌, ◌==◌, Bool, true, false, not, Option, Some, None, List, [], ◌∷◌, map, length, codes, pos, refl, sym, ap, subst, ◌∙◌, arith, inl, inr}
use Rattle.std.specs.Prelude.{option_map, option_and_then, slice_get}
use Rattle.std.specs.Borrow.{Bor}
use Rattle.std.specs.List.{All, slice_index_or}
use Rattle.std.specs.Str.{bytes_eq}
use Rattle.std.proofs.lemmas.Bool.{and_parts, false≢true, eqb-true}
use Rattle.std.proofs.lemmas.List.Elements.{All-get_or, All-nil, All-cons}
use Rattle.std.proofs.lemmas.Slice.Eq.{bytes_eq-Decides}
use Rattle.clap.specs.Words.{IsParsedFrom, IsSignedIn, Accepts, app_of, args_of, found_of, groups_of, has_subcommand, matched_of, parser_of, reading_of, rule_of, without_minus, read_as}
use Rattle.clap.specs.Built.{SameRules, NamesNoGroup, IsAuto}
use Rattle.clap.specs.Facts.{Entry, EntryPasses, HasReading, IsParsed, PassesArg, parser_of_value}
use Rattle.clap.specs.declared.Arg.{Arg}
use Rattle.clap.specs.declared.ArgMatches.{ArgMatches}
use Rattle.clap.specs.declared.Command.{Command}
use Rattle.clap.specs.declared.builder.ValueParser.TheVariants.{Signed}
use Rattle.clap.proofs.CallerLemmas.{entry_by_id, same_rules_by_id}
use Rattle.command_words.specs.Words.{command, echo_rule, sample_rule}
use Rattle.command_words.specs.steps.Found.{HasNumber}

-- The two arguments of the command.
pub record Two (c : Command) : Type 0 where
  pub echo : Arg
  pub sample : Arg
  pub args : args_of c ≡ echo ∷ sample ∷ []
  pub echo_is : rule_of echo ≡ echo_rule
  pub sample_is : rule_of sample ≡ sample_rule

two_of : (xs : List Arg) (c : Command) → args_of c ≡ xs → map rule_of xs ≡ echo_rule ∷ sample_rule ∷ [] → Two c
two_of [] c is e = absurd cc
two_of (x ∷ []) c is e = absurd cc
two_of (x ∷ y ∷ []) c is e = record { echo = x; sample = y; args = is; echo_is = cc; sample_is = cc }
two_of (x ∷ y ∷ z ∷ zs) c is e = absurd cc

two : (c : Command) → app_of c ≡ command → Two c
two c e = two_of (args_of c) c refl (ap (λ a. a.top.rules) e)

-- The text of an entry is that of its first value.
text_of_first : {M R : Type 0} (read : R → List ℕ → List ℕ) (o : Option M) (vals : M → List (Bor (List ℕ))) (how : M → R) (t : List ℕ)
    → option_and_then (λ a. option_map (λ s. read (how a) s.now) (slice_get (vals a) 0)) o ≡ Some t
    → (x : M) × (o ≡ Some x) × ((s : Bor (List ℕ)) × (slice_get (vals x) 0 ≡ Some s) × (t ≡ read (how x) s.now))
text_of_first read None vals how t h = absurd cc
text_of_first read (Some x) vals how t h = here (slice_get (vals x) 0) refl h
  where
    here : (v : Option (Bor (List ℕ))) → slice_get (vals x) 0 ≡ v → option_map (λ s. read (how x) s.now) v ≡ Some t
        → (y : _) × (Some x ≡ Some y) × ((s : Bor (List ℕ)) × (slice_get (vals y) 0 ≡ Some s) × (t ≡ read (how y) s.now))
    here None is e = absurd cc
    here (Some s) is e = (x, refl, (s, is, cc))

first_of_all : {X : Type 0} (P : X → Type 0) (xs : List X) (x : X) → slice_get xs 0 ≡ Some x → All P xs → P x
first_of_all P [] x e h = absurd cc
first_of_all P (y ∷ ys) x e h = let same : y ≡ x = cc in subst P same (All-get_or P (y ∷ ys) 0 y (omega arith) h)

no_items : {X : Type 0} (xs : List X) → (length xs == 0) ≡ true → xs ≡ []
no_items [] h = refl
no_items (x ∷ xs) h = let e : suc (length xs) ≡ 0 = eqb-true _ _ h in absurd (omega arith)

is_false : (b : Bool) → not b ≡ true → b ≡ false
is_false true h = absurd (false≢true h)
is_false false h = refl

-- The command has no group and no global argument.
no_groups : (c : Command) → app_of c ≡ command → groups_of c ≡ []
no_groups c e = no_items (groups_of c) (and_parts _ _ (ap (λ a. a.top.is_plain) e)).0

names_no_group : (c : Command) → app_of c ≡ command → NamesNoGroup c
names_no_group c e =
    let t = two c e in
    let free : (a : Arg) → (rule_of a).is_simple ≡ true → a.groups.items ≡ [] = λ a h. no_items _ (and_parts _ _ (and_parts _ _ (and_parts _ _ h).1).1).0 in
    subst (All (λ a. a.groups.items ≡ [])) (sym t.args)
    (All-cons (λ a. a.groups.items ≡ []) t.echo (t.sample ∷ []) (free t.echo (ap (λ r. r.is_simple) t.echo_is)) (All-cons (λ a. a.groups.items ≡ []) t.sample [] (free t.sample (ap (λ r. r.is_simple) t.sample_is)) (All-nil (λ a. a.groups.items ≡ []))))

-- No other argument than the second has its id.
second : (a b : Arg) → rule_of a ≡ echo_rule → rule_of b ≡ sample_rule → (j : ℕ) (e : Arg) → j < 2 → bytes_eq (slice_index_or (a ∷ b ∷ []) j e).id.now b.id.now ≡ true → j ≡ 1
second a b ea eb zero e l h =
    let ids : bytes_eq (codes "echo") (codes "sample") ≡ true = subst (λ x. bytes_eq x (codes "sample") ≡ true) (ap (λ r. r.id) ea) (subst (λ x. bytes_eq a.id.now x ≡ true) (ap (λ r. r.id) eb) h) in
    absurd (false≢true ids)
second a b ea eb (suc zero) e l h = refl
second a b ea eb (suc (suc j)) e l h = absurd (omega arith)

no_flag : (b : Arg) → rule_of b ≡ sample_rule → IsAuto b → ⊥
no_flag b e auto =
    let id : b.id.now ≡ codes "sample" = ap (λ r. r.id) e in
    elim auto [
      | inl h ↦ absurd (false≢true (ap (λ x. bytes_eq x (codes "help")) (sym id ∙ h)))
      | inr h ↦ absurd (false≢true (ap (λ x. bytes_eq x (codes "version")) (sym id ∙ h)))
    ]

-- An argument of the built command with the id of the second has its rules.
module _ (c : Command) (m : ArgMatches) (e : app_of c ≡ command) (p : IsParsedFrom c m) where
  rules : (j : ℕ) (x : Arg) → j < length (args_of p.built) → slice_index_or (args_of p.built) j x ≡ x → bytes_eq x.id.now (codes "sample") ≡ true
      → SameRules (two c e).sample x
  rules j x l at same =
      let t = two c e in
      let there : slice_index_or (args_of c) 1 t.sample ≡ t.sample = ap (λ xs. slice_index_or xs 1 t.sample) t.args in
      let few : 1 < length (args_of c) = subst (λ xs. 1 < length xs) (sym t.args) (omega arith) in
      let one : (i : ℕ) (y : Arg) → i < length (args_of c) → bytes_eq (slice_index_or (args_of c) i y).id.now (slice_index_or (args_of c) 1 t.sample).id.now ≡ true → i ≡ 1 =
      λ i y. subst (λ xs. i < length xs → bytes_eq (slice_index_or xs i y).id.now (slice_index_or xs 1 t.sample).id.now ≡ true → i ≡ 1) (sym t.args)
      (second t.echo t.sample t.echo_is t.sample_is i y) in
      let id : (slice_index_or (args_of c) 1 t.sample).id.now ≡ codes "sample" = ap (λ a. a.id.now) there ∙ ap (λ r. r.id) t.sample_is in
      subst (λ a. SameRules a x) there
      (same_rules_by_id c m p 1 t.sample few one (subst (λ a. IsAuto a → ⊥) (sym there) (no_flag t.sample t.sample_is)) j x l at
      (subst (λ k. bytes_eq x.id.now k ≡ true) (sym id) same))

  parser_is : (j : ℕ) (x : Arg) → j < length (args_of p.built) → slice_index_or (args_of p.built) j x ≡ x → bytes_eq x.id.now (codes "sample") ≡ true
      → parser_of x ≡ Signed (pos 0) (pos 4294967295)
  parser_is j x l at same = ap parser_of_value ((rules j x l at same).parser (Signed (pos 0) (pos 4294967295)) (ap (λ r. r.parser) (two c e).sample_is))

  no_group_of : groups_of p.built ≡ []
  no_group_of = (p.from.same_groups (names_no_group c e)).1 ∙ no_groups c e

  -- The first value of an entry of the second argument.
  entry_number : (x : Entry) → x.0.now ≡ codes "sample" → EntryPasses p.built x → (s : Bor (List ℕ)) → slice_get x.1.vals.items 0 ≡ Some s
      → (read_as x.1.reading s.now ≡ without_minus s.now) × IsSignedIn (pos 0) (pos 4294967295) s.now
  entry_number x key passes s first =
      let no_group : x.1.is_group ≡ true → ⊥ = λ g. elim (passes.3 g) [
        | inl empty ↦ absurd (false≢true (ap (λ k. length k == 6) (sym empty ∙ key)))
        | inr lots ↦
            let bad : 0 < 0 = subst (λ xs. 0 < length xs) no_group_of lots in
            absurd (omega arith)
      ] in
      let value : PassesArg p.built x.0.now s.now = elim passes.0 [
        | inl g ↦ absurd (no_group g)
        | inr all ↦ first_of_all (λ v. PassesArg p.built x.0.now v.now) x.1.vals.items s first all
      ] in
      let taken : PassesArg p.built (codes "sample") s.now = subst (λ k. PassesArg p.built k s.now) key value in
      let reading : HasReading p.built x.0.now x.1.reading = elim passes.4 [
        | inl g ↦ absurd (no_group g)
        | inr r ↦ r
      ] in
      let reads : HasReading p.built (codes "sample") x.1.reading = subst (λ k. HasReading p.built k x.1.reading) key reading in (
        ap (λ r. read_as r s.now) (sym reads.4.1 ∙ ap reading_of (parser_is reads.0 reads.1 reads.2 reads.3 reads.4.0)),
        subst (λ q. Accepts taken.1.ignore_case q s.now) (parser_is taken.0 taken.1 taken.2 taken.3 taken.4.0) taken.4.1,
      )

  parsed : IsParsed p.built (found_of m) (has_subcommand m)
  parsed = p.parsed (p.from.globals ∙ is_false _ (and_parts _ _ (and_parts _ _ (and_parts _ _ (ap (λ a. a.top.is_plain) e)).1).1).0)

  pub sample_number : HasNumber m
  sample_number t h =
      let found = text_of_first read_as (matched_of (found_of m) (codes "sample")) (λ a. a.vals.items) (λ a. a.reading) t h in
      let entry = entry_by_id (EntryPasses p.built) (found_of m).entries.items (codes "sample") found.0 parsed.values found.1 in
      let key : entry.0.0.now ≡ codes "sample" = (bytes_eq-Decides entry.0.0.now (codes "sample")).0 entry.2 in
      let s = found.2.0 in
      let number = entry_number entry.0 key entry.3 s (subst (λ a. slice_get a.vals.items 0 ≡ Some s) (sym entry.1) found.2.1) in
      (s.now, found.2.2 ∙ ap (λ a. read_as a.reading s.now) (sym entry.1) ∙ number.0, number.1)
