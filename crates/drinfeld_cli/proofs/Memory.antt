-- Bytes in memory, of which no read fails.
use Rattle.std.proofs.Common.{◌≡◌, ℕ, Option, Some, None, List, subst, inl, inr, arith}
use Rattle.text_io.specs.Bytes.{Rose}
use Rattle.command_words.specs.declared.Options.{Options}
use Rattle.drinfeld_cli.specs.declared.status.Status.{Status}
use Rattle.drinfeld_cli.specs.declared.status.Status.TheVariants as status
use Rattle.drinfeld_cli.specs.Run.{Traffic, OfScript, Says}

abbrev never : Traffic → Traffic
never t = record t { read_failed = ⊥ }

same_script : (sample : Option ℕ) (t : Traffic) (P : List ℕ → Type 0) → OfScript sample t P → OfScript sample (never t) P
same_script (Some n) t P h = h
same_script None t P h = h

never_failed : (o : Options) (t : Traffic) (s : Status) → (t.read_failed → ⊥) → Says o t s → Says o (never t) s
never_failed o t status.Done free says = same_script o.sample t _ says
never_failed o t status.Words free says = says
never_failed o t (status.Syntax line) free says = same_script o.sample t _ says
never_failed o t (status.Size which line) free (inl long) = inl long
never_failed o t (status.Size which line) free (inr says) = inr (same_script o.sample t _ says)
never_failed o t (status.Meaning kind line) free says = same_script o.sample t _ says
never_failed o t status.NoMemory free (inl same) = inl same
never_failed o t status.NoMemory free (inr says) = inr (same_script o.sample t _ says)
never_failed o t status.ReadFault free says = absurd (free says.1)
never_failed o t status.WriteFault free says = same_script o.sample t _ says

-- What a run over bytes says.
pub over_bytes : (o : Options) (come bytes : List ℕ) (left before after : Option (List ℕ)) (write : Type 0) (s : Status) → come ≡ bytes
    → Says o (record { coming = Some come; left = left; before = before; after = after; read_failed = Rose 0 0; write_failed = write }) s
    → Says o (record { coming = Some bytes; left = left; before = before; after = after; read_failed = ⊥; write_failed = write }) s
over_bytes o come bytes left before after write s e says =
    let t : Traffic = record { coming = Some come; left = left; before = before; after = after; read_failed = Rose 0 0; write_failed = write } in
    subst (λ b. Says o (record { coming = Some b; left = left; before = before; after = after; read_failed = ⊥; write_failed = write }) s) e
    (never_failed o t s (λ (rose : Rose 0 0). absurd (omega (arith, rose))) says)
