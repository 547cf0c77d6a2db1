-- Numbers and letters are elements of the fields in which sums are read.
use Rattle.std.proofs.Common.{ℕ, suc, ◌-◌, ◌%◌, ◌^◌, ◌<◌, ◌≤◌, arith}
use Rattle.std.proofs.Math.Nat.{pow-suc, one-le-pow, mul-le-mul_left}
use Rattle.std.proofs.lemmas.Bool.{lt-ltb}
use Rattle.ring_core.specs.Ring.{IsElem}
use Rattle.residue_field.specs.Base.{Base, base_ops, ops_of}
use Rattle.residue_field.specs.Top.{Top, top_ops, ops_of_top, letter_of}
use Rattle.residue_field.proofs.BaseLaws.{base_ring, base_commutes}
use Rattle.residue_field.proofs.TopLaws.{top_shape_of, top_monic, top_stored}
use Rattle.residue_field.proofs.Letter.{letter-in}
use Rattle.residue_field.proofs.Listed.{listed_large}

-- a number is at most its powers from the first on
power_large : (p m : ℕ) → 0 < p → p ≤ p ^ suc m
power_large p m positive =
    omega (arith, pow-suc p m, mul-le-mul_left p (one-le-pow m p positive))

pub reduced_in : (k : Base) (n : ℕ) → IsElem (ops_of k) (n % k.p)
unfolding base_ops
reduced_in k n =
    let large : 1 < k.p = listed_large k.p k.is_base.listed in
    let power : k.p ≤ k.p ^ suc (k.s - 1) = power_large k.p (k.s - 1) (omega arith) in
    let below : n % k.p < k.p ^ suc (k.s - 1) = omega arith in
    lt-ltb (n % k.p) (k.p ^ suc (k.s - 1)) below

pub letter_in : (t : Top) → IsElem (ops_of_top t) (letter_of t)
unfolding top_ops letter_of
letter_in t =
    letter-in _ (base_ring t.base) (base_commutes t.base) (t.n - 1) _ (top_monic t.base (t.n - 1) t.modulus (top_shape_of t)) _
    (top_stored t.base (t.n - 1) t.modulus (top_shape_of t))
