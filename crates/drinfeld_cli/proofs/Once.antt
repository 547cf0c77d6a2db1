-- A script runs in one way, so it has one stop, and none where all is answered.
use Rattle.std.proofs.Common.{◌≡◌, ℕ, zero, suc, ◌<◌, ◌⊎◌, Some, List, ◌++◌, refl, sym, ◌∙◌, ap, ap₂, subst, inl, inr, arith}
use Rattle.std.specs.Prelude.{slice_get}
use Rattle.script_parse.specs.declared.Statement.{Statement}
use Rattle.script_lang.proofs.Equal.{same_some}
use Rattle.statement_operands.specs.declared.Stop.{Stop}
use Rattle.session.specs.State.{State}
use Rattle.session.specs.Steps.{Stops}
use Rattle.session.proofs.Outcomes.{one_outcome}
use Rattle.drinfeld_cli.specs.Runs.{Piece, IsAnswered, Runs}
use Rattle.drinfeld_cli.specs.Complete.{IsStop}

one_text : (piece : Piece) (st : State) (s : Statement) (x y : List ℕ) (m n : State) → IsAnswered piece st s x m → IsAnswered piece st s y n → (x ≡ y) × (m ≡ n)
one_text piece st s x y m n h k =
    let e = one_outcome.one_answer st s.form h.answer k.answer m n h.answers k.answers in
    (h.text_is ∙ ap₂ (λ a t. piece st s a t) e.0 e.1 ∙ sym k.text_is, e.1)

pub runs_once : (piece : Piece) (list : List Statement) (k : ℕ) (x y : List ℕ) (m n : State) → Runs piece list k x m → Runs piece list k y n → (x ≡ y) × (m ≡ n)
runs_once piece list zero x y m n r q = (r.0 ∙ sym q.0, r.1 ∙ sym q.1)
runs_once piece list (suc k) x y m n r q =
    let before = runs_once piece list k r.before q.before r.middle q.middle r.ran q.ran in
    let same : r.statement ≡ q.statement = same_some (sym r.at_place ∙ q.at_place) in
    let there : IsAnswered piece r.middle r.statement q.last n =
    subst (λ s. IsAnswered piece r.middle s q.last n) (sym same) (subst (λ t. IsAnswered piece t q.statement q.last n) (sym before.1) q.answered) in
    let last = one_text piece r.middle r.statement r.last q.last m n r.answered there in
    (r.joined ∙ ap₂ (λ a b. a ++ b) before.0 last.0 ∙ sym q.joined, last.1)

-- A statement among the first `n`, answered in the state that those before it leave.
pub record IsBelow (piece : Piece) (list : List Statement) (k : ℕ) : Type 0 where
  pub text : List ℕ
  pub state : State
  pub runs : Runs piece list k text state
  pub statement : Statement
  pub at_place : slice_get list k ≡ Some statement
  pub last : List ℕ
  pub next : State
  pub answered : IsAnswered piece state statement last next

below_or_at : (k n : ℕ) → k < suc n → (k < n) ⊎ (k ≡ n)
below_or_at zero zero h = inr refl
below_or_at zero (suc n) h = inl (omega arith)
below_or_at (suc k) zero h = absurd (omega arith)
below_or_at (suc k) (suc n) h = elim (below_or_at k n (omega arith)) [ inl l ↦ inl (omega arith) | inr e ↦ inr (ap suc e) ]

below : (piece : Piece) (list : List Statement) (n k : ℕ) (text : List ℕ) (st : State) → Runs piece list n text st → k < n → IsBelow piece list k
below piece list zero k text st r h = absurd (omega arith)
below piece list (suc n) k text st r h = elim (below_or_at k n h) [
  | inl l ↦ below piece list n k r.before r.middle r.ran l
  | inr e ↦ subst (λ m. IsBelow piece list m) (sym e) (record {
    text = r.before;
    state = r.middle;
    runs = r.ran;
    statement = r.statement;
    at_place = r.at_place;
    last = r.last;
    next = st;
    answered = r.answered;
  })
]

-- No statement that stops is answered.
pub not_answered : (piece : Piece) (list : List Statement) (c : Stop) (line n : ℕ) (text : List ℕ) (st : State) (s : IsStop piece list c line) → Runs piece list n text st → s.k < n → ⊥
not_answered piece list c line n text st s r h =
    let b = below piece list n s.k text st r h in
    let e = runs_once piece list s.k b.text s.text b.state s.state b.runs s.runs in
    let same : b.statement ≡ s.statement = same_some (sym b.at_place ∙ s.at_place) in
    let stops : Stops b.state b.statement.form c =
    subst (λ x. Stops b.state x.form c) (sym same) (subst (λ x. Stops x s.statement.form c) (sym e.1) s.stops) in
    one_outcome.apart b.state b.statement.form b.answered.answer b.next c b.answered.answers stops
