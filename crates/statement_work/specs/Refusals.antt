-- What the work of a statement refuses, in order: a size that its operands show, a list in the place of a
-- module that is none, and what its own meaning refuses.
use Rattle.std.specs.Prelude.{ℕ, ◌+◌, ◌&&◌, nat_lt, not, Bool, true, false, Option, Some, None, option_map, List, [], ◌∷◌, length, if◌then◌else◌}
use Rattle.std.specs.Option.{option_or}
use Rattle.ring_core.specs.Ring.{RingOps}
use Rattle.residue_field.specs.declared.TopElem.{TopElem}
use Rattle.residue_field.specs.Top.{Top, ops_of_top}
use Rattle.drinfeld_mod.specs.Module.{constant_of, rank_of}
use Rattle.script_statement.specs.declared.Form.{Form}
use Rattle.script_statement.specs.declared.Form.TheVariants as form
use Rattle.script_parse.specs.Version.{version_1}
use Rattle.script_parse.specs.declared.SizeKind.TheVariants as size
use Rattle.answer.specs.declared.Value.{Value}
use Rattle.statement_operands.specs.declared.MeaningKind.{MeaningKind}
use Rattle.statement_operands.specs.declared.MeaningKind.TheVariants as meaning
use Rattle.statement_operands.specs.declared.Stop.{Stop}
use Rattle.statement_operands.specs.declared.Stop.TheVariants as stop
use Rattle.statement_operands.specs.Demands.{demands}
use Rattle.statement_operands.specs.Ranks.{unranked}
use Rattle.statement_operands.specs.Values.{module_value, twisted_value}

-- The cause, where the test holds.
abbrev pub when : {A : Type 0} → Bool → A → Option A
when b x = if b then Some x else None

abbrev pub is_nil : {A : Type 0} → List A → Bool
is_nil [] = true
is_nil (x ∷ xs) = false

-- The degrees of two twisted polynomials that aren't zero add to more than the limit of degrees.
abbrev pub is_too_large : List TopElem → List TopElem → Bool
is_too_large u v = not (is_nil u) && not (is_nil v) && nat_lt (version_1.degree + 2) (length u + length v)

abbrev pub size_refusal : Top → List (List ℕ × Value) → Form → Option Stop
size_refusal t ns (form.Mul u v name) = when (is_too_large (twisted_value t ns u) (twisted_value t ns v)) (stop.Size size.Degree)
size_refusal t ns f = None

-- The constants of two modules differ.
abbrev pub constants_differ : {E : Type 0} → RingOps E → List E → List E → Bool
constants_differ r phi psi = not (r.same (constant_of r phi) (constant_of r psi))

-- A Drinfeld module has the invariants `j_k` with `k` from 1 to the rank less one.
abbrev pub has_invariant : {E : Type 0} → List E → ℕ → Bool
has_invariant phi k = nat_lt 0 k && nat_lt k (rank_of phi)

-- What a form refuses by its own meaning.
abbrev pub own_refusal : Top → List (List ℕ × Value) → Form → Option MeaningKind
own_refusal t ns (form.J m k) = when (not (has_invariant (module_value t ns m) k)) meaning.NoInvariant
own_refusal t ns (form.Rdiv u v) = when (is_nil (twisted_value t ns v)) meaning.ZeroDivisor
own_refusal t ns (form.Ldiv u v) = when (is_nil (twisted_value t ns v)) meaning.ZeroDivisor
own_refusal t ns (form.Check m n u) = when (constants_differ (ops_of_top t) (module_value t ns m) (module_value t ns n)) meaning.OtherConstant
own_refusal t ns (form.Iso m n) = when (constants_differ (ops_of_top t) (module_value t ns m) (module_value t ns n)) meaning.OtherConstant
own_refusal t ns (form.Isogenous m n) = when (constants_differ (ops_of_top t) (module_value t ns m) (module_value t ns n)) meaning.OtherConstant
own_refusal t ns (form.Bounded m n d) = when (constants_differ (ops_of_top t) (module_value t ns m) (module_value t ns n)) meaning.OtherConstant
own_refusal t ns (form.Full m n) = when (constants_differ (ops_of_top t) (module_value t ns m) (module_value t ns n)) meaning.OtherConstant
own_refusal t ns (form.Fullsize m n) = when (constants_differ (ops_of_top t) (module_value t ns m) (module_value t ns n)) meaning.OtherConstant
own_refusal t ns f = None

-- The first refusal that applies, over a top field and with names that meet what the form asks.
unfoldable pub work_refusal : Top → List (List ℕ × Value) → Form → Option Stop
work_refusal t ns f =
    option_or (size_refusal t ns f)
    (option_or (when (unranked t (demands f)) (stop.Meaning meaning.NoRank))
    (option_map (λ k. stop.Meaning k) (own_refusal t ns f)))
