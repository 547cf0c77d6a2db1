-- An entry of the table of sums by those of the rows above it.
use Rattle.std.proofs.Common.{◌≡◌, ℕ, ◌+◌, ◌*◌, ◌/◌, ◌%◌, ◌<◌, List, length, slice_index, sym, ap, subst, ◌∙◌, arith}
use Rattle.ring_core.specs.Ring.{RingOps}
use Rattle.ring_core.proofs.FirstValues.{length-first_values}
use Rattle.field_tower.specs.declared.codes.Codes.{Codes}
use Rattle.field_tower.specs.steps.Codes.{code_ops, first_sums}
use Rattle.field_tower.specs.steps.Tables.{IsRest}
use Rattle.field_tower.proofs.FilledTables.{filled_at, earlier}
use Rattle.field_tower.proofs.LogSteps.{sum_below, sum_split}

module _ (k : Codes) (a b place rest : ℕ) (table : List ℕ) (a_low : a < k.q) (b_low : b < k.q) (before : table ≡ first_sums k (a * k.q + b)) (is : IsRest (code_ops k) a place rest) where
  abbrev r : RingOps ℕ
  r = code_ops k

  abbrev q : ℕ
  q = k.q

  place_low : place < q
  place_low = let l = is.place_low in omega arith

  rest_low : rest < q
  rest_low = let l = is.rest_low in omega arith

  len : length table ≡ a * q + b
  len = ap length before ∙ length-first_values (a * q + b) (λ m. r.add (m / q) (m % q))

  pub part_fits : place * q + b < length table
  part_fits = subst (λ n. place * q + b < n) (sym len) (earlier q a b place b is.place_low b_low)

  part_is : slice_index table (place * q + b) ≡ r.add place b
  part_is = filled_at q (a * q + b) r.add table place b before (earlier q a b place b is.place_low b_low) b_low

  part_low : slice_index table (place * q + b) < q
  part_low = subst (λ x. x < q) (sym part_is) (sum_below k place b place_low b_low)

  pub entry_fits : rest * q + slice_index table (place * q + b) < length table
  entry_fits = subst (λ n. rest * q + slice_index table (place * q + b) < n) (sym len) (earlier q a b rest (slice_index table (place * q + b)) is.rest_low part_low)

  pub entry_is : slice_index table (rest * q + slice_index table (place * q + b)) ≡ r.add a b
  entry_is =
      filled_at q (a * q + b) r.add table rest (slice_index table (place * q + b)) before (earlier q a b rest (slice_index table (place * q + b)) is.rest_low part_low) part_low
      ∙ ap (r.add rest) part_is ∙ sum_split k a rest place b rest_low place_low b_low is.whole
