-- A statement that passes no limit has an outcome.
use Rattle.std.proofs.Common.{◌≡◌, ◌⊎◌, inl, inr, ℕ, suc, ◌+◌, ◌-◌, ◌<◌, ◌≤◌, not, Bool, true, false, Option, Some, None, option_map, List, slice_index, refl, sym, ap, subst, ◌∙◌, arith}
use Rattle.std.proofs.lemmas.Option.{none-some}
use Rattle.ring_core.specs.Coeffs.{coeff}
use Rattle.finite_ring.proofs.Counted.{numbered}
use Rattle.residue_field.specs.Prime.{is_listed, prime_ops}
use Rattle.residue_field.specs.Base.{Base, base_ops, ops_of, size_of}
use Rattle.residue_field.specs.Top.{Top, top_ops}
use Rattle.residue_field.proofs.Listed.{listed_large}
use Rattle.residue_field.proofs.Modular.{prime_ring}
use Rattle.residue_field.proofs.BaseLaws.{IsBaseShape, shape_ring, shape_counted, base_ring}
use Rattle.residue_field.proofs.TopLaws.{IsTopShape, top_shape_ring, top_shape_counted}
use Rattle.script_lang.specs.declared.Sum.{Sum}
use Rattle.script_statement.specs.declared.Form.{Form}
use Rattle.script_statement.specs.declared.Form.TheVariants as form
use Rattle.script_parse.specs.Version.{version_1}
use Rattle.script_parse.specs.Within.{IsWithin}
use Rattle.answer.specs.declared.Answer.{Answer}
use Rattle.answer.specs.declared.Answer.TheVariants as answer
use Rattle.answer.specs.declared.FieldState.{FieldState}
use Rattle.answer.specs.declared.FieldState.TheVariants as field
use Rattle.answer.specs.declared.Value.{Value}
use Rattle.answer.specs.Texts.{top_of}
use Rattle.operand_value.specs.Operands.{base_modulus, top_modulus}
use Rattle.statement_operands.specs.declared.MeaningKind.TheVariants as meaning
use Rattle.statement_operands.specs.declared.Stop.{Stop}
use Rattle.statement_operands.specs.declared.Stop.TheVariants as stop
use Rattle.statement_operands.specs.Asked.{unknown_name, wrong_kind}
use Rattle.statement_operands.specs.Demands.{demands}
use Rattle.statement_operands.proofs.Fitting.{demands_fit}
use Rattle.statement_work.specs.Refusals.{when}
use Rattle.statement_work.specs.Results.{named_value}
use Rattle.statement_work.proofs.Refused.{none_left, none_right}
use Rattle.statement_work.proofs.SomeAnswer.{some_work}
use Rattle.session.specs.Outcome.{HasOutcome}
use Rattle.session.specs.Refusals.{base_refusal, top_refusal, field_refusal, modulus_refusal, value_refusal, refusal}
use Rattle.session.specs.Sound.{is_sound}
use Rattle.session.specs.State.{State}
use Rattle.session.specs.Steps.{HasBasePair, HasTopPair, IsReducible, StopsAfter, SetsBase, SetsTop, GivesOver, with_name}
use Rattle.session.proofs.Decided.{pair_or_none}
use Rattle.session.proofs.Granted.{granted}
use Rattle.session.proofs.Monic.{told_monic}
use Rattle.session.proofs.Operands.{work_free, form_operands}
use Rattle.session.proofs.Primes.{listed_prime}
use Rattle.session.proofs.Stepping.{needs_top}

passed_test : (b : Bool) (x : Stop) → when (not b) x ≡ None → b ≡ true
passed_test true x h = refl
passed_test false x h = absurd (none-some x (sym h))

-- A monic polynomial has a base, or two nonzero residues whose product is zero.
base_outcome : (p s : ℕ) (m : Option Sum) → is_listed p ≡ true → 0 < s → base_refusal p s m ≡ None
    → HasBasePair p s m ⊎ ((a : Answer) × ((k : FieldState) × SetsBase p s m a k))
unfolding base_refusal
base_outcome p s m listed positive free =
    let monic = told_monic (prime_ops p) (prime_ring p (listed_large p listed)) s (base_modulus p m) (passed_test _ _ free) in
    let degree : suc (s - 1) ≡ s = omega (arith, positive) in
    let shape : IsBaseShape p (s - 1) (base_modulus p m) = record {
      listed = listed;
      elems = monic.0;
      count = monic.1 ∙ ap (λ d. d + 1) (sym degree);
      top = ap (slice_index (base_modulus p m)) degree ∙ monic.2;
    } in
    let ring = shape_ring p (s - 1) (base_modulus p m) shape in
    elim (pair_or_none (base_ops p (s - 1) (base_modulus p m)) ring _ (numbered _ ring _ (shape_counted p (s - 1) (base_modulus p m) shape ring))) [
      | inl pair ↦ inl pair
      | inr none ↦
          let k : Base = record {
            p = p;
            s = s;
            modulus = base_modulus p m;
            is_base = record { listed = listed; positive = positive; elems = monic.0; count = monic.1; top = monic.2; no_pair = none };
          } in
          inr (answer.Q (size_of k), (field.Base k, (k, (refl, refl, refl), refl, refl)))
    ]

top_outcome : (k : Base) (n : ℕ) (m : Sum) → 0 < n → n ≤ 12 → top_refusal k n m ≡ None
    → HasTopPair k n m ⊎ ((a : Answer) × ((f : FieldState) × SetsTop k n m a f))
unfolding top_refusal
top_outcome k n m positive fits free =
    let monic = told_monic (ops_of k) (base_ring k) n (top_modulus k m) (passed_test _ _ free) in
    let degree : suc (n - 1) ≡ n = omega (arith, positive) in
    let shape : IsTopShape k (n - 1) (top_modulus k m) = record {
      fits = omega (arith, degree, fits);
      elems = monic.0;
      count = monic.1 ∙ ap (λ d. d + 1) (sym degree);
      top = ap (coeff (ops_of k) (top_modulus k m)) degree ∙ monic.2;
    } in
    let ring = top_shape_ring k (n - 1) (top_modulus k m) shape in
    elim (pair_or_none (top_ops k (n - 1) (top_modulus k m)) ring _ (numbered _ ring _ (top_shape_counted k (n - 1) (top_modulus k m) shape ring))) [
      | inl pair ↦ inl pair
      | inr none ↦
          let t : Top = record {
            base = k;
            n = n;
            modulus = top_modulus k m;
            is_top = record { positive = positive; fits = omega (arith, fits); elems = monic.0; count = monic.1; top = monic.2; no_pair = none };
          } in
          inr (answer.N n, (field.Top t, (t, refl, refl, refl, refl, refl)))
    ]

-- What a form without a refusal does, by the field.
abbrev Rest : FieldState → List (List ℕ × Value) → Form → Type 0
Rest k ns f = ((c : Stop) × IsReducible k f c) ⊎ ((a : Answer) × ((next : State) × GivesOver (top_of k) (record { field = k; names = ns }) f a next))

nothing_rest : (ns : List (List ℕ × Value)) (f : Form) → IsWithin version_1 f → field_refusal (demands f).field field.Nothing ≡ None
    → modulus_refusal field.Nothing f ≡ None → Rest field.Nothing ns f
nothing_rest ns (form.Base p s m) within asked free =
    elim (base_outcome p s m (listed_prime p within.0) within.1 free) [
      | inl pair ↦ inl (stop.Meaning meaning.BaseReducible, (refl, pair))
      | inr sets ↦ inr (sets.0, (record { field = sets.1.0; names = ns }, (sets.1.0, sets.1.1, refl)))
    ]
nothing_rest ns (form.Over n m) within asked free = absurd (none-some _ (sym asked))
nothing_rest ns f within asked free = absurd (none-some meaning.FieldMissing (sym asked))

base_rest : (k : Base) (ns : List (List ℕ × Value)) (f : Form) → IsWithin version_1 f → field_refusal (demands f).field (field.Base k) ≡ None
    → modulus_refusal (field.Base k) f ≡ None → Rest (field.Base k) ns f
base_rest k ns (form.Base p s m) within asked free = absurd (none-some _ (sym asked))
base_rest k ns (form.Over n m) within asked free =
    elim (top_outcome k n m within.0 within.1 free) [
      | inl pair ↦ inl (stop.Meaning meaning.TopReducible, (refl, pair))
      | inr sets ↦ inr (sets.0, (record { field = sets.1.0; names = ns }, (sets.1.0, sets.1.1, refl)))
    ]
base_rest k ns f within asked free = absurd (none-some meaning.FieldMissing (sym asked))

rest : (k : FieldState) (ns : List (List ℕ × Value)) (f : Form) → IsWithin version_1 f → field_refusal (demands f).field k ≡ None
    → unknown_name ns (demands f) ≡ false → wrong_kind ns (demands f) ≡ false → is_sound k ns ≡ true → value_refusal k ns f ≡ None → Rest k ns f
rest field.Nothing ns f within asked known kind sound free = nothing_rest ns f within asked free
rest (field.Base k) ns f within asked known kind sound free = base_rest k ns f within asked free
rest (field.Top t) ns f within asked known kind sound free =
    let parts = work_free t ns f free in
    let operands = form_operands t ns sound (demands f) known kind (demands_fit f within) parts.0 in
    let w = some_work t ns f operands (needs_top _ t asked) known parts.1 in
    inr (w.0, (record { field = field.Top t; names = with_name (demands f).gives (named_value w.0) ns }, (operands, w.1, refl)))

unmapped : {A B : Type 0} (g : A → B) (o : Option A) → option_map g o ≡ None → o ≡ None
unmapped g None h = refl
unmapped g (Some x) h = absurd (none-some (g x) (sym h))

after_refusal : (st : State) (f : Form) → is_sound st.field st.names ≡ true → IsWithin version_1 f → refusal st f ≡ None → HasOutcome st f
after_refusal st f sound within free =
    let names = granted st (demands f) (unmapped (λ k. stop.Meaning k) _ (none_left _ _ free)) in
    elim (rest st.field st.names f within names.field names.known names.kind sound (none_right _ _ free)) [
      | inl stops ↦ inl (stops.0, subst (λ o. StopsAfter o stops.0 (IsReducible st.field f stops.0)) (sym free) stops.1)
      | inr gives ↦ inr (gives.0, (gives.1.0, (free, gives.1.1)))
    ]

by_refusal : (st : State) (f : Form) → is_sound st.field st.names ≡ true → IsWithin version_1 f → (o : Option Stop) → refusal st f ≡ o → HasOutcome st f
by_refusal st f sound within None is = after_refusal st f sound within is
by_refusal st f sound within (Some c) is = inl (c, subst (λ o. StopsAfter o c (IsReducible st.field f c)) (sym is) refl)

pub outcome : (st : State) (f : Form) → is_sound st.field st.names ≡ true → IsWithin version_1 f → HasOutcome st f
outcome st f sound within = by_refusal st f sound within (refusal st f) refl
