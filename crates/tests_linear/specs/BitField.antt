-- The field with two elements.
use Rattle.std.specs.Prelude.{◌≡◌, Bool, true, false, not, ◌&&◌, Option, Some, None, refl, MatchOption}
use Rattle.std.proofs.Common.{sym}
use Rattle.ring_core.specs.Ring.{RingOps}
use Rattle.ring_core.specs.Field.{IsField}
use mathlib.Core.Bool.{true≢false}

abbrev pub bit_add : Bool → Bool → Bool
bit_add true b = not b
bit_add false b = b

abbrev pub bit_same : Bool → Bool → Bool
bit_same true b = b
bit_same false b = not b

abbrev pub bit_inv : Bool → Option Bool
bit_inv true = Some true
bit_inv false = None

abbrev pub bit_ops : RingOps Bool
bit_ops = record {
  is_elem = λ _. true;
  zero = false;
  one = true;
  add = bit_add;
  neg = λ a. a;
  mul = λ a b. a && b;
  same = bit_same;
}

same_refl : (a : Bool) → bit_same a a ≡ true
same_refl true = refl
same_refl false = refl

same_eq : (a b : Bool) → bit_same a b ≡ true → a ≡ b
same_eq true true e = refl
same_eq true false e = absurd (true≢false (sym e))
same_eq false true e = absurd (true≢false (sym e))
same_eq false false e = refl

add_assoc : (a b c : Bool) → bit_add (bit_add a b) c ≡ bit_add a (bit_add b c)
add_assoc true true true = refl
add_assoc true true false = refl
add_assoc true false c = refl
add_assoc false b c = refl

add_comm : (a b : Bool) → bit_add a b ≡ bit_add b a
add_comm true true = refl
add_comm true false = refl
add_comm false true = refl
add_comm false false = refl

add_neg : (a : Bool) → bit_add a a ≡ false
add_neg true = refl
add_neg false = refl

mul_assoc : (a b c : Bool) → ((a && b) && c) ≡ (a && (b && c))
mul_assoc true b c = refl
mul_assoc false b c = refl

mul_one : (a : Bool) → (a && true) ≡ a
mul_one true = refl
mul_one false = refl

mul_comm : (a b : Bool) → (a && b) ≡ (b && a)
mul_comm true true = refl
mul_comm true false = refl
mul_comm false true = refl
mul_comm false false = refl

mul_add : (a b c : Bool) → (a && bit_add b c) ≡ bit_add (a && b) (a && c)
mul_add true b c = refl
mul_add false b c = refl

add_mul : (a b c : Bool) → (bit_add a b && c) ≡ bit_add (a && c) (b && c)
add_mul true true true = refl
add_mul true true false = refl
add_mul true false true = refl
add_mul true false false = refl
add_mul false b c = refl

inv_is : (a : Bool) → MatchOption (bit_inv a) (a ≡ false) (λ b. (true ≡ true) × ((a && b) ≡ true))
inv_is true = (refl, refl)
inv_is false = refl

pub bit_laws : IsField bit_ops bit_inv
bit_laws = record {
  ring = record {
    closed = record {
      zero_in = refl;
      one_in = refl;
      add_in = λ a b p q. refl;
      neg_in = λ a p. refl;
      mul_in = λ a b p q. refl;
    };
    equal = record {
      same_refl = λ a p. same_refl a;
      same_eq = λ a b p q e. same_eq a b e;
    };
    add_assoc = λ a b c p q s. add_assoc a b c;
    add_comm = λ a b p q. add_comm a b;
    zero_add = λ a p. refl;
    add_neg = λ a p. add_neg a;
    mul_assoc = λ a b c p q s. mul_assoc a b c;
    one_mul = λ a p. refl;
    mul_one = λ a p. mul_one a;
    mul_add = λ a b c p q s. mul_add a b c;
    add_mul = λ a b c p q s. add_mul a b c;
  };
  mul_comm = λ a b p q. mul_comm a b;
  one_ne_zero = true≢false;
  inv_is = λ a p. inv_is a;
}
