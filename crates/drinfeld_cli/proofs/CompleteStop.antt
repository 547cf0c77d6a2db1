-- A script that stops is left with its stop.
use Rattle.std.proofs.Common.{◌≡◌, ℕ, ◌<◌, ◌≤◌, Option, List, length, refl, sym, ◌∙◌, ap, ap₂, subst, inl, inr, arith}
use Rattle.std.specs.Prelude.{slice_get}
use Rattle.std.proofs.lemmas.Option.{slice_get_within}
use Rattle.std.proofs.lemmas.Bool.{cases_lt}
use Rattle.command_words.specs.declared.Options.{Options}
use Rattle.script_parse.specs.declared.Statement.{Statement}
use Rattle.script_lang.proofs.Equal.{same_some}
use Rattle.script_parse.specs.Version.{version_1}
use Rattle.script_parse.specs.Scripts.{IsScriptOf}
use Rattle.script_parse.proofs.OneScript.{script_once, no_fault}
use Rattle.statement_operands.specs.declared.Stop.{Stop}
use Rattle.statement_operands.specs.declared.Stop.TheVariants as stop
use Rattle.session.specs.State.{State}
use Rattle.session.specs.Steps.{Stops}
use Rattle.session.proofs.Outcomes.{one_outcome}
use Rattle.drinfeld_cli.specs.declared.status.Status.{Status}
use Rattle.drinfeld_cli.specs.declared.status.Status.TheVariants as status
use Rattle.drinfeld_cli.specs.Runs.{Piece, piece_of, Runs, IsStopped, status_of}
use Rattle.drinfeld_cli.specs.Run.{Traffic, Says}
use Rattle.drinfeld_cli.specs.Complete.{IsStop, IsCompleteStop}
use Rattle.drinfeld_cli.proofs.Once.{runs_once, not_answered}
use Rattle.drinfeld_cli.proofs.Completeness.{of_script, any_script, no_script, too_long, the_stop}

module _ (piece : Piece) where
  -- Two stops of one script are one.
  same_place : (list : List Statement) (c d : Stop) (l m : ℕ) (s : IsStop piece list c l) (r : IsStop piece list d m) → s.k ≡ r.k → (c ≡ d) × (l ≡ m)
  same_place list c d l m s r e =
      let there : Runs piece list s.k r.text r.state = subst (λ k. Runs piece list k r.text r.state) (sym e) r.runs in
      let states = (runs_once piece list s.k s.text r.text s.state r.state s.runs there).1 in
      let same : s.statement ≡ r.statement = same_some (sym s.at_place ∙ ap (slice_get list) e ∙ r.at_place) in
      let stops : Stops s.state s.statement.form d =
      subst (λ x. Stops s.state x.form d) (sym same) (subst (λ x. Stops x r.statement.form d) (sym states) r.stops) in
      (one_outcome.one_stop s.state s.statement.form c d s.stops stops, s.line_is ∙ ap (λ x. x.line) same ∙ sym r.line_is)

  one_stop : (list : List Statement) (c d : Stop) (l m : ℕ) → IsStop piece list c l → IsStop piece list d m → (c ≡ d) × (l ≡ m)
  one_stop list c d l m s r = elim (cases_lt s.k r.k) [
    | inl before ↦ absurd (not_answered piece list c l r.k r.text r.state s r.runs before)
    | inr after ↦ elim (cases_lt r.k s.k) [
      | inl behind ↦ absurd (not_answered piece list d m s.k s.text s.state r s.runs behind)
      | inr other ↦ same_place list c d l m s r (omega arith)
    ]
  ]

  -- A run that stopped has the status of the script's stop.
  stopped_so : (bytes : List ℕ) (xs ys : List Statement) (c d : Stop) (l m : ℕ) (before after : Option (List ℕ)) → IsScriptOf bytes xs
      → IsScriptOf bytes ys → IsStop piece xs c l → IsStopped piece ys d m before after → status_of d m ≡ status_of c l
  stopped_so bytes xs ys c d l m before after is other s h =
      let r : IsStop piece xs d m = subst (λ z. IsStop piece z d m) (sym (script_once is other)) (the_stop piece ys d m before after h) in
      let e = one_stop xs d c m l r s in
      ap₂ status_of e.0 e.1

  -- A run to the end has no stop.
  ran_to_end : (list : List Statement) (c : Stop) (l : ℕ) (text : List ℕ) (st : State) → IsStop piece list c l → Runs piece list (length list) text st → ⊥
  ran_to_end list c l text st s runs = not_answered piece list c l (length list) text st s runs (slice_get_within list s.k s.statement s.at_place)

pub complete_stop : (o : Options) (t : Traffic) (s : Status) → Says o t s → IsCompleteStop o t s
complete_stop o t status.Done says =
    of_script o.sample t _ _ (λ bytes p. λ list c line is fits s write.
    let piece : Piece = piece_of o.echo bytes in
    let e = script_once p.script is in
    let runs : Runs piece list (length list) p.ended.1.text p.ended.0 = subst (λ z. Runs piece z (length z) p.ended.1.text p.ended.0) e p.ended.1.runs in
    absurd (ran_to_end piece list c line p.ended.1.text p.ended.0 s runs)) says
complete_stop o t status.Words says = absurd says
complete_stop o t (status.Syntax line) says = of_script o.sample t _ _ (λ bytes p. λ list c l is fits s write. absurd (no_fault is p.0)) says
complete_stop o t (status.Size which line) (inl long) =
    too_long o.sample t _ long.0 long.1.2 (λ bytes (l : version_1.script < length bytes). λ list c m is (fits : length bytes ≤ version_1.script) s write. absurd (omega arith))
complete_stop o t (status.Size which line) (inr says) =
    of_script o.sample t _ _ (λ bytes p. λ list c l is fits s write. elim p [
      | inl fault ↦ absurd (no_fault is fault.0)
      | inr run ↦ inl (stopped_so (piece_of o.echo bytes) bytes list run.list c (stop.Size which) l line _ _ is run.script s run.ended)
    ]) says
complete_stop o t (status.Meaning kind line) says =
    of_script o.sample t _ _ (λ bytes p. λ list c l is fits s write.
    inl (stopped_so (piece_of o.echo bytes) bytes list p.list c (stop.Meaning kind) l line _ _ is p.script s p.ended)) says
complete_stop o t status.NoMemory says = any_script o.sample t _ (λ bytes. λ list c l is fits s write. inr refl)
complete_stop o t status.ReadFault says = no_script o.sample t _ says.0 says.1
complete_stop o t status.WriteFault says = of_script o.sample t _ _ (λ bytes p. λ list c l is fits s write. absurd (write p.ended.0)) says
