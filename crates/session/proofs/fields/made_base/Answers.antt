use Rattle.std.proofs.Common.{ap, refl, ◌∙◌}
use Rattle.ring_core.specs.Coeffs.{are_elems}
use Rattle.residue_field.specs.Prime.{prime_ops}
use Rattle.session.proofs.Monic.{IsBaseList, base_passed, base_made, bad_base, base_with_pair}
use Rattle.session.proofs.fields.made_base.Goals as goal

pub returns-in-Ok-clause-free : goal.returns-in-Ok-clause-free
returns-in-Ok-clause-free c =
    let list : IsBaseList c.args.p c.args.s _ c.deref.result.now = record {
      listed = c.requires.listed;
      value = c.deref.ensures.value ∙ c.in_ok-list.ensures.value;
      elem = ap (are_elems (prime_ops c.args.p)) c.deref.ensures.value ∙ c.in_ok-list.ensures.elem;
    } in
    base_passed _ _ _ _ list c.in-Ok.ensures.1

pub returns-in-Ok-clause-value : goal.returns-in-Ok-clause-value
returns-in-Ok-clause-value c =
    let list : IsBaseList c.args.p c.args.s _ c.deref.result.now = record {
      listed = c.requires.listed;
      value = c.deref.ensures.value ∙ c.in_ok-list.ensures.value;
      elem = ap (are_elems (prime_ops c.args.p)) c.deref.ensures.value ∙ c.in_ok-list.ensures.elem;
    } in
    base_made _ _ _ _ list c.in-Ok.base c.in-Ok.ensures.2

pub returns-in-Err-BadModulus-clause-stop : goal.returns-in-Err-BadModulus-clause-stop
returns-in-Err-BadModulus-clause-stop c = λ other.
    let list : IsBaseList c.args.p c.args.s _ c.deref.result.now = record {
      listed = c.requires.listed;
      value = c.deref.ensures.value ∙ c.in_ok-list.ensures.value;
      elem = ap (are_elems (prime_ops c.args.p)) c.deref.ensures.value ∙ c.in_ok-list.ensures.elem;
    } in
    let fault = rw c.in-Err-BadModulus.field-0-is at c.in-Err-BadModulus.ensures in
    bad_base _ _ _ _ list fault.1 _

pub returns-in-Err-ZeroDivisors-clause-stop : goal.returns-in-Err-ZeroDivisors-clause-stop
returns-in-Err-ZeroDivisors-clause-stop c = λ other.
    let list : IsBaseList c.args.p c.args.s _ c.deref.result.now = record {
      listed = c.requires.listed;
      value = c.deref.ensures.value ∙ c.in_ok-list.ensures.value;
      elem = ap (are_elems (prime_ops c.args.p)) c.deref.ensures.value ∙ c.in_ok-list.ensures.elem;
    } in
    let fault = rw c.in-Err-ZeroDivisors.field-0-is at c.in-Err-ZeroDivisors.ensures in
    base_with_pair _ _ _ _ list fault.1 _ _ fault.2 _ refl
