-- What a status says makes the answer complete.
use Rattle.std.proofs.Common.{◌≡◌, ℕ, ◌<◌, ◌≤◌, Option, Some, None, List, length, refl, sym, subst, inl, inr, arith}
use Rattle.std.specs.Prelude.{IfSome}
use Rattle.command_words.specs.declared.Options.{Options}
use Rattle.sample_script.specs.Sample.{sample_text}
use Rattle.script_parse.specs.declared.Statement.{Statement}
use Rattle.script_parse.specs.Version.{version_1}
use Rattle.script_parse.specs.Scripts.{IsScriptOf}
use Rattle.script_parse.proofs.OneScript.{script_once, no_fault}
use Rattle.statement_operands.specs.declared.Stop.{Stop}
use Rattle.session.specs.State.{State}
use Rattle.drinfeld_cli.specs.declared.status.Status.{Status}
use Rattle.drinfeld_cli.specs.declared.status.Status.TheVariants as status
use Rattle.drinfeld_cli.specs.Runs.{Piece, piece_of, HasRun, IsStopped}
use Rattle.drinfeld_cli.specs.Run.{Traffic, OfScript, Says}
use Rattle.drinfeld_cli.specs.Complete.{IsStop, IsDone, IfScript, IsComplete}

if_some : {A : Type 0} (o : Option A) (P Q : A → Type 0) → ((x : A) → P x → Q x) → IfSome o P → IfSome o Q
if_some None P Q f h = h
if_some (Some x) P Q f h = f x h

all_some : {A : Type 0} (o : Option A) (Q : A → Type 0) → ((x : A) → Q x) → IfSome o Q
all_some None Q f = tt
all_some (Some x) Q f = f x

-- What holds of each script that is told.
pub of_script : (sample : Option ℕ) (t : Traffic) (P Q : List ℕ → Type 0) → ((bytes : List ℕ) → P bytes → Q bytes) → OfScript sample t P → IfScript sample t.coming t.read_failed Q
of_script (Some n) t P Q f h = f (sample_text n) h.1
of_script None t P Q f h = λ read. if_some t.coming _ Q (λ bytes p. f bytes p.1) h.1

pub any_script : (sample : Option ℕ) (t : Traffic) (Q : List ℕ → Type 0) → ((bytes : List ℕ) → Q bytes) → IfScript sample t.coming t.read_failed Q
any_script (Some n) t Q f = f (sample_text n)
any_script None t Q f = λ read. all_some t.coming Q f

-- No script is told where a read failed, and none that is too long.
pub no_script : (sample : Option ℕ) (t : Traffic) (Q : List ℕ → Type 0) → sample ≡ None → t.read_failed → IfScript sample t.coming t.read_failed Q
no_script sample t Q e failed = subst (λ x. IfScript x t.coming t.read_failed Q) (sym e) (λ read. absurd (read failed))

pub too_long : (sample : Option ℕ) (t : Traffic) (Q : List ℕ → Type 0) → sample ≡ None → IfSome t.coming (λ bytes. version_1.script < length bytes)
    → ((bytes : List ℕ) → version_1.script < length bytes → Q bytes) → IfScript sample t.coming t.read_failed Q
too_long sample t Q e long f = subst (λ x. IfScript x t.coming t.read_failed Q) (sym e) (λ read. if_some t.coming _ Q f long)

abbrev StopFree : Piece → List Statement → Type 0
StopFree piece xs = (d : Stop) (m : ℕ) → IsStop piece xs d m → ⊥

-- The stop of a run is that of its script.
pub the_stop : (piece : Piece) (list : List Statement) (c : Stop) (line : ℕ) (before after : Option (List ℕ)) → IsStopped piece list c line before after → IsStop piece list c line
the_stop piece list c line before after h = record {
  k = h.k;
  statement = h.statement;
  at_place = h.at_place;
  line_is = h.line_is;
  text = h.has_run.text;
  state = h.state;
  runs = h.has_run.runs;
  stops = h.stops;
}

-- A script without a stop did not stop.
no_stop : (piece : Piece) (bytes : List ℕ) (xs ys : List Statement) (c : Stop) (line : ℕ) (before after : Option (List ℕ)) → IsScriptOf bytes xs
    → IsScriptOf bytes ys → StopFree piece xs → IsStopped piece ys c line before after → ⊥
no_stop piece bytes xs ys c line before after is other none h =
    none c line (subst (λ l. IsStop piece l c line) (sym (script_once is other)) (the_stop piece ys c line before after h))

done_of : (piece : Piece) (before after : Option (List ℕ)) (xs ys : List Statement) → xs ≡ ys → (st : State) → HasRun piece xs (length xs) st before after → IsDone piece ys before after
done_of piece before after xs ys e st h =
    subst (λ l. IsDone piece l before after) e (record { text = h.text; state = st; runs = h.runs; written = h.written })

pub complete : (o : Options) (t : Traffic) (s : Status) → Says o t s → IsComplete o t s
complete o t status.Done says =
    of_script o.sample t _ _ (λ bytes p. λ list is fits free write.
    inl (refl, done_of (piece_of o.echo bytes) _ _ p.list list (script_once p.script is) p.ended.0 p.ended.1)) says
complete o t status.Words says = absurd says
complete o t (status.Syntax line) says = of_script o.sample t _ _ (λ bytes p. λ list is fits free write. absurd (no_fault is p.0)) says
complete o t (status.Size which line) (inl long) =
    too_long o.sample t _ long.0 long.1.2 (λ bytes (l : version_1.script < length bytes). λ list is (fits : length bytes ≤ version_1.script) free write. absurd (omega arith))
complete o t (status.Size which line) (inr says) =
    of_script o.sample t _ _ (λ bytes p. λ list is fits free write. absurd (elim p [
      | inl fault ↦ no_fault is fault.0
      | inr run ↦ no_stop (piece_of o.echo bytes) bytes list run.list _ line _ _ is run.script free run.ended
    ])) says
complete o t (status.Meaning kind line) says =
    of_script o.sample t _ _ (λ bytes p. λ list is fits free write. absurd (no_stop (piece_of o.echo bytes) bytes list p.list _ line _ _ is p.script free p.ended)) says
complete o t status.NoMemory says = any_script o.sample t _ (λ bytes. λ list is fits free write. inr refl)
complete o t status.ReadFault says = no_script o.sample t _ says.0 says.1
complete o t status.WriteFault says = of_script o.sample t _ _ (λ bytes p. λ list is fits free write. absurd (write p.ended.0)) says
