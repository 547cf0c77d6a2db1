-- Fields of codes: the numbers modulo a listed prime, and base fields.
use Rattle.std.proofs.Common.{◌≡◌, ℕ, ◌<◌, ◌≤◌, true, sym, subst}
use Rattle.ring_core.specs.Ring.{RingOps, IsElem}
use Rattle.residue_field.specs.Prime.{is_listed, prime_ops}
use Rattle.residue_field.specs.Base.{Base, ops_of, size_of}
use Rattle.residue_field.proofs.Modular.{prime_ring, prime_commutes}
use Rattle.residue_field.proofs.Listed.{listed_large}
use Rattle.residue_field.proofs.Characteristic.{prime_finite, prime_nth}
use Rattle.residue_field.proofs.BaseLaws.{base_ring, base_commutes}
use Rattle.residue_field.proofs.BaseFinite.{base_finite, base_nth}
use Rattle.field_tower.specs.declared.size.TheConstants.{CODES}
use Rattle.field_tower.specs.Constants.{IsFieldOfCodes}

pub code_elem : (r : RingOps ℕ) (q : ℕ) → IsFieldOfCodes r q → (i : ℕ) → i < q → IsElem r i
code_elem r q codes i l = subst (IsElem r) (codes.nth i l) (codes.finite.counted.nth i).1

pub prime_codes : (p : ℕ) → is_listed p ≡ true → p ≤ CODES → IsFieldOfCodes (prime_ops p) p
prime_codes p listed few = record {
  ring = prime_ring p (listed_large p listed);
  commutes = prime_commutes p;
  finite = prime_finite p listed;
  nth = prime_nth p listed;
  few = few;
}

pub base_codes : (k : Base) (q : ℕ) → q ≡ size_of k → q ≤ CODES → IsFieldOfCodes (ops_of k) q
base_codes k q is few =
    subst (IsFieldOfCodes (ops_of k)) (sym is) (record {
      ring = base_ring k;
      commutes = base_commutes k;
      finite = base_finite k (base_ring k);
      nth = base_nth k (base_ring k);
      few = subst (λ m. m ≤ CODES) is few;
    })
