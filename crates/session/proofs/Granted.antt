-- What follows where nothing is refused before the values.
use Rattle.std.proofs.Common.{◌≡◌, false, None}
use Rattle.statement_operands.specs.Asked.{unknown_name, wrong_kind, name_taken}
use Rattle.statement_operands.specs.Demands.{Demands}
use Rattle.statement_work.proofs.Refused.{none_left, none_right, not_when}
use Rattle.session.specs.State.{State}
use Rattle.session.specs.Refusals.{field_refusal, name_refusal}

pub record IsGranted (st : State) (d : Demands) : Type 0 where
  pub field : field_refusal d.field st.field ≡ None
  pub known : unknown_name st.names d ≡ false
  pub kind : wrong_kind st.names d ≡ false
  pub free : name_taken st.names d ≡ false

pub granted : (st : State) (d : Demands) → name_refusal st d ≡ None → IsGranted st d
unfolding name_refusal
granted st d h =
    let rest = none_right _ _ h in
    let last = none_right _ _ rest in
    record {
      field = none_left _ _ h;
      known = not_when _ _ (none_left _ _ rest);
      kind = not_when _ _ (none_left _ _ last);
      free = not_when _ _ (none_right _ _ last);
    }
