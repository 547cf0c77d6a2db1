use Rattle.std.proofs.Common.{◌≡◌, ap, refl, subst, ◌∙◌}
use Rattle.std.proofs.lemmas.Bool.{and_parts}
use Rattle.ring_core.specs.Coeffs.{are_elems}
use Rattle.residue_field.specs.Base.{ops_of}
use Rattle.field_tower.specs.declared.TowerFault.TheVariants as fault
use Rattle.field_tower.specs.MakeTop.{IsTopFault}
use Rattle.session.proofs.Monic.{IsTopList, top_made, top_passed, bad_top, top_with_pair}
use Rattle.session.proofs.fields.made_top.Goals as goal

pub returns-in-Ok-make-clause-free : goal.returns-in-Ok-make-clause-free
returns-in-Ok-make-clause-free c =
    let list : IsTopList c.args.base c.args.modulus.now c.deref.result.now = record {
      value = c.deref.ensures.value ∙ c.in-Ok.ensures.value;
      elem = ap (are_elems (ops_of c.args.base)) c.deref.ensures.value ∙ (and_parts _ _ c.in-Ok.ensures.elem).0;
    } in
    let made = c.in-Ok-make.ensures in
    top_passed _ c.args.n _ _ list (top_made _ c.args.n _ _ list c.in-Ok-make.t made.0 made.1 made.2)

pub returns-in-BadModulus-clause-stop : goal.returns-in-BadModulus-clause-stop
returns-in-BadModulus-clause-stop c = λ other.
    let list : IsTopList c.args.base c.args.modulus.now c.deref.result.now = record {
      value = c.deref.ensures.value ∙ c.in-Ok.ensures.value;
      elem = ap (are_elems (ops_of c.args.base)) c.deref.ensures.value ∙ (and_parts _ _ c.in-Ok.ensures.elem).0;
    } in
    let is : c.in-Err.field-0.why ≡ fault.BadModulus = cc in
    let why = subst (IsTopFault c.args.base c.args.n c.deref.result.now) is c.in-Err.ensures.1 in
    bad_top _ c.args.n _ _ list why.1 _

pub returns-in-ZeroDivisors-clause-stop : goal.returns-in-ZeroDivisors-clause-stop
returns-in-ZeroDivisors-clause-stop c = λ other.
    let list : IsTopList c.args.base c.args.modulus.now c.deref.result.now = record {
      value = c.deref.ensures.value ∙ c.in-Ok.ensures.value;
      elem = ap (are_elems (ops_of c.args.base)) c.deref.ensures.value ∙ (and_parts _ _ c.in-Ok.ensures.elem).0;
    } in
    let is : c.in-Err.field-0.why ≡ fault.ZeroDivisors c.in-ZeroDivisors.a c.in-ZeroDivisors.b = cc in
    let why = subst (IsTopFault c.args.base c.args.n c.deref.result.now) is c.in-Err.ensures.1 in
    top_with_pair _ c.args.n _ _ list why.1 _ _ why.2 _ refl
