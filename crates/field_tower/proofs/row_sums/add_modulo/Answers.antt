use native.Mathlib.Nat.{add-mod-mod}
use Rattle.std.proofs.Common.{◌≡◌, ◌+◌, ◌*◌, ◌%◌, ◌<◌, length, slice_index_or, refl, sym, ap, ◌∙◌, arith, mod-lt, lt-ltb, ltb-true}
use Rattle.ring_core.specs.Coeffs.{coeff}
use Rattle.ring_core.proofs.Coefficients.{elems_set, elem_read}
use Rattle.ring_core.proofs.Written.{written_more, next_place}
use Rattle.residue_field.specs.Prime.{prime_ops}
use Rattle.residue_field.proofs.Modular.{prime_ring}
use Rattle.field_tower.proofs.row_sums.add_modulo.Goals as goal

pub fraction_of-fraction-requires-clause-factor : goal.fraction_of-fraction-requires-clause-factor
fraction_of-fraction-requires-clause-factor c = ltb-true c.args.c c.args.p c.requires.factor

pub added_product-requires-clause-sum : goal.added_product-requires-clause-sum
added_product-requires-clause-sum c =
    let p = c.args.p in
    let place = c.args.i + c.loop-j.j in
    ltb-true (slice_index_or c.loop-j.out place 0) p (elem_read (prime_ops p) c.loop-j.out (prime_ring p c.requires.large).closed.zero_in c.loop-j.invariant.elems place)

pub added_product-requires-clause-factor : goal.added_product-requires-clause-factor
added_product-requires-clause-factor c =
    let p = c.args.p in
    let row = c.args.row.now in
    ltb-true (slice_index_or row c.loop-j.j 0) p (elem_read (prime_ops p) row (prime_ring p c.requires.large).closed.zero_in c.requires.row c.loop-j.j)

pub loop-j-preserved : goal.loop-j-preserved
loop-j-preserved c =
    let p = c.args.p in
    let r = prime_ops p in
    let before = c.args.out.now in
    let out = c.loop-j.out in
    let row = c.args.row.now in
    let i = c.args.i in
    let j = c.loop-j.j in
    let positive : 0 < p = omega (arith, c.requires.large) in
    let room : i + j < length out = omega arith in
    let was = next_place 0 i j _ before out c.loop-j.invariant.written in
    let value : c.added_product.result ≡ r.add (coeff r before (i + j)) (r.mul c.args.c (coeff r row j)) =
    c.added_product.ensures ∙ ap (λ a. (a + c.args.c * coeff r row j) % p) was ∙ sym (add-mod-mod (coeff r before (i + j)) (c.args.c * coeff r row j) p) in
    record {
      elems = elems_set r out (i + j) _ c.loop-j.invariant.elems (ap r.is_elem value ∙ lt-ltb _ p (mod-lt _ positive));
      written = written_more 0 i j (i + j) (λ k. r.add (coeff r before (i + k)) (r.mul c.args.c (coeff r row k))) before out _ c.loop-j.invariant.written refl room value;
    }
