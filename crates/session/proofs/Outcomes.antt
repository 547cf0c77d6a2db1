-- A statement has at most one outcome.
use Rattle.std.proofs.Common.{◌≡◌, ℕ, ◌-◌, Option, Some, None, List, sym, ap, ap₂, subst, ◌∙◌}
use Rattle.residue_field.specs.Base.{Base, base_ops, base_inj, size_of}
use Rattle.residue_field.specs.Top.{Top, top_ops, top_inj}
use Rattle.field_tower.specs.MakeBase.{IsBaseOf}
use Rattle.field_tower.specs.Pairs.{IsPair}
use Rattle.finite_ring.specs.Finite.{HasNoPair}
use Rattle.ring_core.specs.Ring.{RingOps}
use Rattle.script_statement.specs.declared.Form.{Form}
use Rattle.script_statement.specs.declared.Form.TheVariants as form
use Rattle.script_lang.specs.declared.Sum.{Sum}
use Rattle.answer.specs.declared.Answer.{Answer}
use Rattle.answer.specs.declared.Answer.TheVariants as answer
use Rattle.answer.specs.declared.FieldState.{FieldState}
use Rattle.answer.specs.declared.FieldState.TheVariants as field
use Rattle.answer.specs.declared.Value.{Value}
use Rattle.answer.specs.Texts.{top_of}
use Rattle.statement_operands.specs.declared.Stop.{Stop}
use Rattle.statement_operands.specs.Demands.{demands}
use Rattle.operand_value.specs.Operands.{base_modulus, top_modulus}
use Rattle.statement_work.specs.Results.{named_value}
use Rattle.statement_work.proofs.OneAnswer.{one_work}
use Rattle.session.specs.Outcome.{OneOutcome}
use Rattle.session.specs.Refusals.{refusal}
use Rattle.session.specs.State.{State}
use Rattle.session.specs.Steps.{HasBasePair, HasTopPair, IsReducible, StopsAfter, Stops, SetsBase, SetsTop, SetsField, GivesOver, Answers, with_name}

reducible_once : (k : FieldState) (f : Form) (c d : Stop) → IsReducible k f c → IsReducible k f d → c ≡ d
reducible_once field.Nothing (form.Base p s m) c d h g = h.0 ∙ sym g.0
reducible_once (field.Base k) (form.Over n m) c d h g = h.0 ∙ sym g.0
reducible_once k f c d h g = absurd h

stops_once : (o : Option Stop) (k : FieldState) (f : Form) (c d : Stop) → StopsAfter o c (IsReducible k f c) → StopsAfter o d (IsReducible k f d) → c ≡ d
stops_once (Some r) k f c d h g = h ∙ sym g
stops_once None k f c d h g = reducible_once k f c d h g

one_base : (p s : ℕ) (m : Option Sum) (b c : Base) → IsBaseOf p s (base_modulus p m) b → IsBaseOf p s (base_modulus p m) c → b ≡ c
one_base p s m b c h g = base_inj b c (ap₂ (λ x y. (x, y)) (h.0 ∙ sym g.0) (ap₂ (λ x y. (x, y)) (h.1 ∙ sym g.1) (h.2 ∙ sym g.2)))

base_once : (p s : ℕ) (m : Option Sum) (a b : Answer) (x y : FieldState) → SetsBase p s m a x → SetsBase p s m b y → (a ≡ b) × (x ≡ y)
base_once p s m a b x y h g =
    let e = one_base p s m h.0 g.0 h.1 g.1 in
    (h.2 ∙ ap (λ k. answer.Q (size_of k)) e ∙ sym g.2, h.3 ∙ ap (λ k. field.Base k) e ∙ sym g.3)

top_once : (k : Base) (n : ℕ) (m : Sum) (a b : Answer) (x y : FieldState) → SetsTop k n m a x → SetsTop k n m b y → (a ≡ b) × (x ≡ y)
top_once k n m a b x y h g =
    let e = top_inj h.0 g.0 (ap₂ (λ u v. (u, v)) (h.1 ∙ sym g.1) (ap₂ (λ u v. (u, v)) (h.2 ∙ sym g.2) (h.3 ∙ sym g.3))) in
    (h.4 ∙ sym g.4, h.5 ∙ ap (λ t. field.Top t) e ∙ sym g.5)

field_once : (k : FieldState) (f : Form) (a b : Answer) (x y : FieldState) → SetsField k f a x → SetsField k f b y → (a ≡ b) × (x ≡ y)
field_once field.Nothing (form.Base p s m) a b x y h g = base_once p s m a b x y h g
field_once (field.Base k) (form.Over n m) a b x y h g = top_once k n m a b x y h g
field_once k f a b x y h g = absurd h

gives_once : (o : Option Top) (st : State) (f : Form) (a b : Answer) (m n : State) → GivesOver o st f a m → GivesOver o st f b n → (a ≡ b) × (m ≡ n)
gives_once (Some t) st f a b m n h g =
    let e = one_work t st.names f a b h.0 h.1 g.1 in
    (e, h.2 ∙ ap (λ x. record { field = st.field; names = with_name (demands f).gives (named_value x) st.names }) e ∙ sym g.2)
gives_once None st f a b m n h g =
    let e = field_once st.field f a b h.0 g.0 h.1 g.1 in
    (e.0, h.2 ∙ ap (λ k. record { field = k; names = st.names }) e.1 ∙ sym g.2)

no_pair : {E : Type 0} (r : RingOps E) → HasNoPair r → (a b : E) → IsPair r a b → ⊥
no_pair r none a b p = none a b p.left_in p.right_in p.left_nonzero p.right_nonzero p.product_zero

base_apart : (p s : ℕ) (m : Option Sum) (a : Answer) (x : FieldState) → SetsBase p s m a x → HasBasePair p s m → ⊥
base_apart p s m a x h pair =
    let k = h.0 in
    let is : base_ops k.p (k.s - 1) k.modulus ≡ base_ops p (s - 1) (base_modulus p m) =
    ap₂ (λ q l. base_ops q (k.s - 1) l) h.1.0 h.1.2 ∙ ap (λ d. base_ops p (d - 1) (base_modulus p m)) h.1.1 in
    no_pair (base_ops p (s - 1) (base_modulus p m)) (subst HasNoPair is k.is_base.no_pair) pair.0 pair.1 pair.2

top_apart : (k : Base) (n : ℕ) (m : Sum) (a : Answer) (x : FieldState) → SetsTop k n m a x → HasTopPair k n m → ⊥
top_apart k n m a x h pair =
    let t = h.0 in
    let is : top_ops t.base (t.n - 1) t.modulus ≡ top_ops k (n - 1) (top_modulus k m) =
    ap₂ (λ b l. top_ops b (t.n - 1) l) h.1 h.3 ∙ ap (λ d. top_ops k (d - 1) (top_modulus k m)) h.2 in
    no_pair (top_ops k (n - 1) (top_modulus k m)) (subst HasNoPair is t.is_top.no_pair) pair.0 pair.1 pair.2

field_apart : (k : FieldState) (f : Form) (a : Answer) (x : FieldState) (c : Stop) → SetsField k f a x → IsReducible k f c → ⊥
field_apart field.Nothing (form.Base p s m) a x c h g = base_apart p s m a x h g.1
field_apart (field.Base k) (form.Over n m) a x c h g = top_apart k n m a x h g.1
field_apart k f a x c h g = absurd h

gives_apart : (k : FieldState) (ns : List (List ℕ × Value)) (f : Form) (a : Answer) (n : State) (c : Stop)
    → GivesOver (top_of k) (record { field = k; names = ns }) f a n → IsReducible k f c → ⊥
gives_apart field.Nothing ns f a n c h g = field_apart field.Nothing f a h.0 c h.1 g
gives_apart (field.Base k) ns f a n c h g = field_apart (field.Base k) f a h.0 c h.1 g
gives_apart (field.Top t) ns f a n c h g = absurd g

apart : (st : State) (f : Form) (a : Answer) (n : State) (c : Stop) → Answers st f a n → Stops st f c → ⊥
apart st f a n c h g =
    gives_apart st.field st.names f a n c h.1 (subst (λ o. StopsAfter o c (IsReducible st.field f c)) h.0 g)

pub one_outcome : OneOutcome
one_outcome = record {
  one_answer = λ st f a b m n h g. gives_once (top_of st.field) st f a b m n h.1 g.1;
  one_stop = λ st f c d h g. stops_once (refusal st f) st.field f c d h g;
  apart = apart;
}
