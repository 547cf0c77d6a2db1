-- One more statement, answered or cut short.
use Rattle.std.proofs.Common.{◌≡◌, ℕ, suc, ◌+◌, ◌<◌, Option, Some, None, List, ◌++◌, length, take, get_or, refl, sym, ◌∙◌, ap, subst, append_assoc, arith}
use Rattle.std.specs.Prelude.{slice_get}
use Rattle.std.proofs.lemmas.Option.{slice_get-get_or}
use Rattle.text_io.specs.Bytes.{with_back}
use Rattle.script_parse.specs.declared.Statement.{Statement}
use Rattle.session.specs.State.{State}
use Rattle.drinfeld_cli.specs.Runs.{Piece, IsAnswered, Runs, HasRun, IsCut}

pub with_back_twice : (old : Option (List ℕ)) (a b : List ℕ) → with_back (with_back old a) b ≡ with_back old (a ++ b)
with_back_twice None a b = refl
with_back_twice (Some x) a b = ap Some (append_assoc x a b)

-- The member that was read stands at its place.
pub read_at : {X : Type 0} (xs : List X) (i : ℕ) (x : X) → i < length xs → x ≡ get_or xs i x → slice_get xs i ≡ Some x
read_at xs i x l read = slice_get-get_or xs i x l ∙ ap Some (sym read)

run_on : (piece : Piece) (list : List Statement) (k : ℕ) (s : Statement) (st next : State) (text last : List ℕ)
    → Runs piece list k text st → slice_get list k ≡ Some s → IsAnswered piece st s last next → Runs piece list (suc k) (text ++ last) next
run_on piece list k s st next text last runs at answered =
    record { before = text; middle = st; ran = runs; statement = s; at_place = at; last = last; answered = answered; joined = refl }

pub one_more : (piece : Piece) (list : List Statement) (k : ℕ) (s : Statement) (st next : State) (before mid after : Option (List ℕ))
    → HasRun piece list k st before mid → slice_get list k ≡ Some s
    → (text : List ℕ) × IsAnswered piece st s text next × (after ≡ with_back mid text) → HasRun piece list (k + 1) next before after
one_more piece list k s st next before mid after h at p =
    let e : suc k ≡ k + 1 = omega arith in
    record {
      text = h.text ++ p.0;
      runs = subst (λ m. Runs piece list m (h.text ++ p.0) next) e (run_on piece list k s st next h.text p.0 h.runs at p.1);
      written = p.2 ∙ ap (λ b. with_back b p.0) h.written ∙ with_back_twice before h.text p.0;
    }

pub one_cut : (piece : Piece) (list : List Statement) (k : ℕ) (s : Statement) (st next : State) (before mid after : Option (List ℕ))
    → HasRun piece list k st before mid → slice_get list k ≡ Some s
    → (text : List ℕ) × IsAnswered piece st s text next × ((n : ℕ) × (after ≡ with_back mid (take n text))) → IsCut piece list before after
one_cut piece list k s st next before mid after h at p = record {
  k = k;
  text = h.text;
  state = st;
  runs = h.runs;
  last = p.0;
  next = next;
  goes_on = run_on piece list k s st next h.text p.0 h.runs at p.1;
  count = p.2.0;
  written = p.2.1 ∙ ap (λ b. with_back b (take p.2.0 p.0)) h.written ∙ with_back_twice before h.text (take p.2.0 p.0);
}
