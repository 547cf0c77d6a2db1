-- The definitions compute: products in fields of 4 and 9 elements, a sum in one of 3, and a base field as a value.
use Rattle.std.proofs.Common.{◌≡◌, zero, suc, ◌<◌, [], ◌∷◌, refl, arith, ltb-true}
use Rattle.finite_ring.specs.Finite.{HasNoPair}
use Rattle.residue_field.specs.Base.{Base, base_ops}

-- a a = a + 1 modulo a^2 + a + 1 over F_2
square_in_4 : (base_ops 2 1 (1 ∷ 1 ∷ 1 ∷ [])).mul 2 2 ≡ 3
unfolding base_ops
square_in_4 = refl

-- a a = 2 modulo a^2 + 1 over F_3, where a is 3
square_in_9 : (base_ops 3 1 (1 ∷ 0 ∷ 1 ∷ [])).mul 3 3 ≡ 2
unfolding base_ops
square_in_9 = refl

-- (a + 2) (2 a + 1) = 1 modulo a^2 + a + 2 over F_3
product_in_9 : (base_ops 3 1 (2 ∷ 1 ∷ 1 ∷ [])).mul 5 7 ≡ 1
unfolding base_ops
product_in_9 = refl

-- in F_3 as residues modulo a
sum_in_3 : (base_ops 3 0 (0 ∷ 1 ∷ [])).add 2 2 ≡ 1
unfolding base_ops
sum_in_3 = refl

two_no_pair : HasNoPair (base_ops 2 0 (0 ∷ 1 ∷ []))
unfolding base_ops
two_no_pair zero b s t na nb e = na refl
two_no_pair (suc zero) zero s t na nb e = nb refl
two_no_pair (suc zero) (suc zero) s t na nb e = na e
two_no_pair (suc zero) (suc (suc y)) s t na nb e = let low : suc (suc y) < 2 = ltb-true _ 2 t in absurd (omega arith)
two_no_pair (suc (suc x)) b s t na nb e = let low : suc (suc x) < 2 = ltb-true _ 2 s in absurd (omega arith)

-- A base field as a value: F_2, as residues modulo a.
two : Base
two = record {
  p = 2;
  s = 1;
  modulus = 0 ∷ 1 ∷ [];
  is_base = record {
    listed = refl;
    positive = omega arith;
    elems = refl;
    count = refl;
    top = refl;
    no_pair = two_no_pair;
  };
}
