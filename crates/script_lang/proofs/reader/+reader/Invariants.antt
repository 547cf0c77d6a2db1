use Rattle.std.proofs.Common.{◌+◌, ◌*◌, length}
use Rattle.script_lang.proofs.Reading.{FactorsSoFar, TermsSoFar}
use Rattle.script_lang.proofs.reader.+reader.Given as goal

abbrev pub decreases-read_sum : goal.decreases-read_sum
decreases-read_sum l = 4 * l.depth + 3

abbrev pub decreases-read_product : goal.decreases-read_product
decreases-read_product l = 4 * l.depth + 2

abbrev pub decreases-read_factor : goal.decreases-read_factor
decreases-read_factor l = 4 * l.depth + 1

abbrev pub invariant-read_product-loop-power : goal.invariant-read_product-loop-power
invariant-read_product-loop-power l = FactorsSoFar l.kind l.depth l.tokens l.rest l.factors

abbrev pub decreases-read_product-loop-power : goal.decreases-read_product-loop-power
decreases-read_product-loop-power l = length l.rest

abbrev pub invariant-read_sum-loop-terms : goal.invariant-read_sum-loop-terms
invariant-read_sum-loop-terms l = TermsSoFar l.kind l.depth l.lead l.tokens l.minus l.rest l.terms

abbrev pub decreases-read_sum-loop-terms : goal.decreases-read_sum-loop-terms
decreases-read_sum-loop-terms l = length l.rest
