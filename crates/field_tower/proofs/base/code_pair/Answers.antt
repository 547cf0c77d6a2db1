use Rattle.std.proofs.Common.{◌≡◌, Some, None, MatchOption, subst}
use Rattle.finite_ring.specs.Finite.{HasNoPair}
use Rattle.residue_field.specs.Prime.{prime_ops}
use Rattle.field_tower.specs.steps.Places.{stored_ops}
use Rattle.field_tower.specs.Pairs.{IsPair}
use Rattle.field_tower.proofs.CodePairs.{prime_constants, no_code_pair, code_pair_made}
use Rattle.field_tower.proofs.base.code_pair.Goals as goal

pub find_pair-requires-clause-constants : goal.find_pair-requires-clause-constants
find_pair-requires-clause-constants c = prime_constants c.args.codes.now

pub returns-in_default : goal.returns-in_default
returns-in_default c =
    let k = c.args.codes.now in
    let t = stored_ops (prime_ops k.prime.p) k.modulus.now in
    let none : c.in_ok-a.field-0 ≡ None = c.in_default.is in
    no_code_pair k (subst (λ o. MatchOption o (HasNoPair t) (λ pair. IsPair t pair.0 pair.1)) none c.in_ok-a.ensures)

pub code-left-requires : goal.code-left-requires
code-left-requires c =
    let t = stored_ops (prime_ops c.args.codes.now.prime.p) c.args.codes.now.modulus.now in
    let some : c.in_ok-a.field-0 ≡ Some (c.in-Some.a, c.in-Some.b) = c.in-Some.is in
    (subst (λ o. MatchOption o (HasNoPair t) (λ pair. IsPair t pair.0 pair.1)) some c.in_ok-a.ensures).left_in

pub code-right-requires : goal.code-right-requires
code-right-requires c =
    let t = stored_ops (prime_ops c.args.codes.now.prime.p) c.args.codes.now.modulus.now in
    let some : c.in_ok-a.field-0 ≡ Some (c.in-Some.a, c.in-Some.b) = c.in-Some.is in
    (subst (λ o. MatchOption o (HasNoPair t) (λ pair. IsPair t pair.0 pair.1)) some c.in_ok-a.ensures).right_in

pub returns : goal.returns
returns c =
    let k = c.args.codes.now in
    let t = stored_ops (prime_ops k.prime.p) k.modulus.now in
    let some : c.in_ok-a.field-0 ≡ Some (c.in-Some.a, c.in-Some.b) = c.in-Some.is in
    let pair = subst (λ o. MatchOption o (HasNoPair t) (λ pair. IsPair t pair.0 pair.1)) some c.in_ok-a.ensures in
    code_pair_made k c.in-Some.a c.in-Some.b _ _ pair c.code-left.ensures c.code-right.ensures
