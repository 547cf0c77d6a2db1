-- What reading and writing in pieces adds up to.
use Rattle.std.proofs.Common.{◌≡◌, ℕ, ◌+◌, ◌-◌, ◌≤◌, List, ◌++◌, length, take, drop, Option, Some, None, sym, ap, refl, ◌∙◌, append_assoc}
use Rattle.std.specs.Prelude.{is_some}
use Rattle.std.proofs.Math.Seq.{take-add, take-append-add}
use Rattle.std.proofs.lemmas.List.{length-take-le, take-append-le, take-append-drop, drop-drop, take_rest}
use borrow.Rule.Slice.PartMut.{put_mid, post_of}
use Rattle.text_io.specs.Bytes.{with_front, with_back}

-- What a loop that writes has kept so far.
pub record Sent {O : Type 0} (written : O → Option (List ℕ)) (faults calls : O → ℕ) (old new : O) (bytes : List ℕ) (sent : ℕ) : Type 0 where
  pub within : sent ≤ length bytes
  pub written_so_far : written new ≡ with_back (written old) (take sent bytes)
  pub sound : faults new ≡ faults old
  pub later : calls old ≤ calls new
  pub few : calls new ≤ calls old + sent

-- What a loop that reads has kept so far.
pub record Filled {I : Type 0} (coming : I → Option (List ℕ)) (faults calls : I → ℕ) (old new : I) (buffer : List ℕ) (filled : ℕ) : Type 0 where
  pub within : filled ≤ length buffer
  pub taken : with_front (take filled buffer) (coming new) ≡ coming old
  pub told : is_some (coming new) ≡ is_some (coming old)
  pub sound : faults new ≡ faults old
  pub later : calls old ≤ calls new
  pub few : calls new ≤ calls old + filled

pub with_back-with_back : (bytes : Option (List ℕ)) (xs ys : List ℕ) → with_back (with_back bytes xs) ys ≡ with_back bytes (xs ++ ys)
with_back-with_back None xs ys = refl
with_back-with_back (Some front) xs ys = ap Some (append_assoc front xs ys)

pub with_front-with_front : (xs ys : List ℕ) (bytes : Option (List ℕ)) → with_front xs (with_front ys bytes) ≡ with_front (xs ++ ys) bytes
with_front-with_front xs ys None = refl
with_front-with_front xs ys (Some rest) = ap Some (sym (append_assoc xs ys rest))

pub is_some-with_back : (bytes : Option (List ℕ)) (xs : List ℕ) → is_some (with_back bytes xs) ≡ is_some bytes
is_some-with_back None xs = refl
is_some-with_back (Some front) xs = refl

-- The next `k` of the bytes were written after the first `sent`.
pub sent_more : (sent k : ℕ) (bytes : List ℕ) (old mid new : Option (List ℕ)) → mid ≡ with_back old (take sent bytes) → new ≡ with_back mid (take k (take (length bytes - sent) (drop sent bytes))) → new ≡ with_back old (take (sent + k) bytes)
sent_more sent k bytes old mid new so_far step =
    step ∙ ap (λ rest. with_back mid (take k rest)) (take_rest bytes sent)
    ∙ ap (λ b. with_back b (take k (drop sent bytes))) so_far
    ∙ with_back-with_back old (take sent bytes) (take k (drop sent bytes))
    ∙ ap (λ front. with_back old front) (sym (take-add sent k bytes))

take_filled : (filled room k : ℕ) (buffer piece : List ℕ) → filled ≤ length buffer → k ≤ length piece → take (filled + k) (put_mid filled room buffer piece) ≡ take filled buffer ++ take k piece
take_filled filled room k buffer piece within fits =
    rw (length-take-le filled buffer within) at (take-append-add (take filled buffer) (piece ++ post_of filled room buffer) k)
    ∙ ap (λ back. take filled buffer ++ back) (take-append-le k piece (post_of filled room buffer) fits)

-- The next `k` bytes were read behind the first `filled`.
pub filled_more : (filled room k : ℕ) (buffer piece : List ℕ) (old mid new : Option (List ℕ)) → filled ≤ length buffer → k ≤ length piece → with_front (take filled buffer) mid ≡ old → with_front (take k piece) new ≡ mid → with_front (take (filled + k) (put_mid filled room buffer piece)) new ≡ old
filled_more filled room k buffer piece old mid new within fits so_far step =
    ap (λ front. with_front front new) (take_filled filled room k buffer piece within fits)
    ∙ sym (with_front-with_front (take filled buffer) (take k piece) new)
    ∙ ap (λ bytes. with_front (take filled buffer) bytes) step
    ∙ so_far

-- What was given and what is left are all the bytes.
pub given_and_rest : (at k : ℕ) (bytes into : List ℕ) → take k into ≡ take k (drop at bytes) → take k into ++ drop (at + k) bytes ≡ drop at bytes
given_and_rest at k bytes into front =
    ap (λ xs. xs ++ drop (at + k) bytes) front
    ∙ ap (λ ys. take k (drop at bytes) ++ ys) (sym (drop-drop k at bytes))
    ∙ take-append-drop k (drop at bytes)
