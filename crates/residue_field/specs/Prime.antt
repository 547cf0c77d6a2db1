-- Numbers modulo a prime.
use Rattle.std.specs.Prelude.{ℕ, ◌+◌, ◌-◌, ◌*◌, ◌%◌, ◌^◌, Bool, ◌||◌, cond, nat_eq, nat_lt, Option, Some, None}
use Rattle.ring_core.specs.Ring.{RingOps}

-- The primes that a base field may stand on.
abbrev pub is_listed : ℕ → Bool
is_listed p = nat_eq p 2 || nat_eq p 3 || nat_eq p 5 || nat_eq p 7 || nat_eq p 11 || nat_eq p 13 || nat_eq p 251 || nat_eq p 257

-- The numbers below `p` with the sum and the product modulo `p`.
abbrev pub prime_ops : ℕ → RingOps ℕ
prime_ops p = record {
  is_elem = λ a. nat_lt a p;
  zero = 0;
  one = 1;
  add = λ a b. (a + b) % p;
  neg = λ a. (p - a) % p;
  mul = λ a b. (a * b) % p;
  same = nat_eq;
}

-- The inverse modulo a prime: the power `p - 2`, and None at zero.
abbrev pub prime_inv : ℕ → ℕ → Option ℕ
prime_inv p a = cond (nat_eq a 0) None (Some ((a ^ (p - 2)) % p))
