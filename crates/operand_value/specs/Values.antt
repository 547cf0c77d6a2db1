-- The values of sums in a field, and of sums that are polynomials over it.
use Rattle.std.specs.Prelude.{ℕ, Bool, List, [], fold, map, if◌then◌else◌}
use Rattle.ring_core.specs.Ring.{RingOps}
use Rattle.ring_core.specs.Powers.{power_of}
use Rattle.ring_core.specs.Monomial.{monomial}
use Rattle.ring_core.specs.Twisted.{list_add}
use Rattle.script_lang.specs.declared.Sum.{Sum, out-Sum}
use Rattle.script_lang.specs.declared.Term.{Term}
use Rattle.script_lang.specs.declared.Factor.{Factor}
use Rattle.script_lang.specs.declared.Factor.TheOpen.{Factor-F, Sum-F, Term-F}
use Rattle.script_lang.specs.declared.Factor.TheFolds.{fold-Sum, fold-Term, fold-Factor}

-- What the numbers and the letters are.
pub record Letters (E : Type 0) : Type 0 where
  pub number : ℕ → E
  pub a : E
  pub z : E

-- A factor, where a sum in parentheses has its value.
abbrev pub factor_step : {E : Type 0} → RingOps E → Letters E → Factor-F E E E → E
factor_step r l (Factor-F.Number n) = l.number n
factor_step r l (Factor-F.A k) = power_of r l.a k
factor_step r l (Factor-F.Z k) = power_of r l.z k
factor_step r l (Factor-F.Group v) = v

abbrev pub signed : {E : Type 0} → RingOps E → Bool → E → E
signed r minus v = if minus then r.neg v else v

abbrev pub product_of : {E : Type 0} → RingOps E → List E → E
product_of r vs = fold r.mul r.one vs

-- A term is the product of its factors, negated where there is a minus.
abbrev pub term_step : {E : Type 0} → RingOps E → Term-F E E E → E
term_step r t = signed r t.minus (product_of r t.factors)

abbrev pub sum_step : {E : Type 0} → RingOps E → Sum-F E E E → E
sum_step r s = fold r.add r.zero s.terms

-- The value of a sum, of a term without the letter that ends it, and of a factor.
abbrev pub sum_value : {E : Type 0} → RingOps E → Letters E → Sum → E
sum_value {E} r l = fold-Sum E E E (factor_step r l) (sum_step r) (term_step r)

abbrev pub term_value : {E : Type 0} → RingOps E → Letters E → Term → E
term_value {E} r l = fold-Term E E E (factor_step r l) (sum_step r) (term_step r)

abbrev pub factor_value : {E : Type 0} → RingOps E → Letters E → Factor → E
factor_value {E} r l = fold-Factor E E E (factor_step r l) (sum_step r) (term_step r)

-- The sum of the terms as polynomials: each is its value at the power of the letter that ends it.
abbrev pub terms_poly : {E : Type 0} → RingOps E → Letters E → List Term → List E
terms_poly r l terms = fold (λ v t. list_add r v (monomial r (term_value r l t) t.power)) [] terms

-- The polynomial that a sum is, in the letter that ends its terms.
abbrev pub poly_value : {E : Type 0} → RingOps E → Letters E → Sum → List E
poly_value r l s = terms_poly r l (out-Sum s).terms

-- The values of the sums of a list.
abbrev pub sum_values : {E : Type 0} → RingOps E → Letters E → List Sum → List E
sum_values r l sums = map (sum_value r l) sums
