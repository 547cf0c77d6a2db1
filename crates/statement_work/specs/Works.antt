-- The answers of the statements over a top field, from the values of their operands.
use Rattle.std.specs.Prelude.{◌≡◌, ℕ, ◌↔◌, Bool, IsTrue, Option, Some, None, List, length, Ok, Err}
use Rattle.ring_core.specs.Twisted.{list_add, list_neg, list_mul}
use Rattle.residue_field.specs.Top.{Top, ops_of_top, frob_of_top}
use Rattle.morphism.specs.Homomorphism.{IsHomomorphism}
use Rattle.residue_field.specs.declared.TopElem.{TopElem}
use Rattle.residue_field.specs.Base.{ops_of, size_of}
use Rattle.ore_divide.specs.declared.Common.{Common}
use Rattle.ore_divide.specs.declared.Multiple.{Multiple}
use Rattle.ore_divide.specs.Division.{IsRightDivision, IsLeftDivision}
use Rattle.ore_divide.specs.Divisor.{IsCommonRight}
use Rattle.ore_divide.specs.Multiple.{IsLeastMultiple}
use Rattle.drinfeld_mod.specs.Module.{rank_of}
use Rattle.drinfeld_mod.specs.Image.{image}
use Rattle.drinfeld_mod.specs.Height.{IsCharacteristic, IsHeight}
use Rattle.drinfeld_mod.specs.Invariant.{IsInvariant}
use Rattle.kernel_quotient.specs.declared.NoQuotient.TheVariants.{Zero, Remainder, Constant}
use Rattle.kernel_quotient.specs.Quotient.{IsQuotientAnswer}
use Rattle.hom_space.specs.Bounded.{IsBoundedList}
use Rattle.hom_space.specs.Full.{IsFullList}
use Rattle.isomorphism.specs.Isomorphism.{IsFirstIsomorphism, HasNoIsomorphism}
use Rattle.isomorphism.specs.Isogeny.{IsFirstIsogeny, HasNoIsogeny}
use Rattle.motive_coords.specs.Motive.{IsMotive}
use Rattle.frobenius_rel.specs.Relation.{IsLeastRelation}
use Rattle.frobenius_rel.specs.RankPower.{IsRankPower, AreDegrees}
use Rattle.script_statement.specs.declared.Form.{Form}
use Rattle.script_statement.specs.declared.Form.TheVariants as form
use Rattle.answer.specs.declared.Answer.{Answer}
use Rattle.answer.specs.declared.Answer.TheVariants as answer
use Rattle.answer.specs.declared.Value.{Value}
use Rattle.answer.specs.declared.Value.TheVariants as value
use Rattle.statement_operands.specs.Names.{value_of}
use Rattle.statement_operands.specs.Values.{module_value, twisted_value}
use Rattle.operand_value.specs.Operands.{list_values, base_polynomial}
use Rattle.statement_work.specs.Greatest.{greatest_degree}

-- The answer is yes exactly where the fact holds, and else no.
abbrev pub IsTruth : Answer → Type 0 → Type 0
IsTruth a P = (b : Bool) × (a ≡ answer.Truth b) × (IsTrue b ↔ P)

abbrev pub IsShown : Option Value → Answer → Type 0
IsShown None a = ⊥
IsShown (Some v) a = a ≡ answer.Shown v

-- `c` and `rest` are the parts of the answer, and they are such.
abbrev pub IsDivided : Answer → (List TopElem → List TopElem → Type 0) → Type 0
IsDivided a P = (c rest : List TopElem) × (a ≡ answer.Division c rest) × P c rest

-- The greatest common right divisor, and the least common left multiple, with their cofactors.
abbrev pub IsCommonOf : Top → List TopElem → List TopElem → Answer → Type 0
IsCommonOf t u v a = (c : Common TopElem) × (a ≡ answer.Common c) × IsCommonRight (ops_of_top t) (frob_of_top t).frob u v c.d c.s c.w

abbrev pub IsMultipleOf : Top → List TopElem → List TopElem → Answer → Type 0
IsMultipleOf t u v a = (m : Multiple TopElem) × (a ≡ answer.Multiple m) × IsLeastMultiple (ops_of_top t) (frob_of_top t).frob u v m.m m.s m.w

-- The characteristic, the height and the invariants of a Drinfeld module over the top field.
abbrev pub IsItsCharacteristic : Top → List TopElem → List ℕ → Type 0
IsItsCharacteristic t phi p = IsCharacteristic (ops_of_top t) (ops_of t.base) (frob_of_top t) phi p

abbrev pub IsItsHeight : Top → List TopElem → ℕ → Type 0
IsItsHeight t phi h = IsHeight (ops_of_top t) (ops_of t.base) (frob_of_top t) phi h

-- The quotient of a module, or why there is none.
abbrev pub IsQuotientOf : Top → List TopElem → List TopElem → Answer → Type 0
IsQuotientOf t phi u (answer.Quotient psi) = IsQuotientAnswer (ops_of_top t) (frob_of_top t).frob phi u (Ok psi)
IsQuotientOf t phi u answer.NoneZero = IsQuotientAnswer (ops_of_top t) (frob_of_top t).frob phi u (Err Zero)
IsQuotientOf t phi u (answer.NoneRemainder rest) = IsQuotientAnswer (ops_of_top t) (frob_of_top t).frob phi u (Err (Remainder rest))
IsQuotientOf t phi u (answer.NoneConstant c) = IsQuotientAnswer (ops_of_top t) (frob_of_top t).frob phi u (Err (Constant c))
IsQuotientOf t phi u a = ⊥

-- A list of homomorphisms is the answer, and it is such a list.
abbrev pub IsMembersOf : Answer → (List (List TopElem) → Type 0) → Type 0
IsMembersOf a P = (list : List (List TopElem)) × (a ≡ answer.Members list) × P list

-- The bounded list for the degree `d`, and the full list, of homomorphisms from a module to another.
abbrev pub IsItsBoundedList : Top → List TopElem → List TopElem → ℕ → List (List TopElem) → Type 0
IsItsBoundedList t phi psi d list = IsBoundedList (ops_of_top t) (ops_of t.base) (frob_of_top t) phi psi d list

abbrev pub IsItsFullList : Top → List TopElem → List TopElem → List (List TopElem) → Type 0
IsItsFullList t phi psi list = IsFullList (ops_of_top t) (ops_of t.base) (frob_of_top t) phi psi list

-- The number of members of the full list, and the greatest of their degrees.
abbrev pub IsCountOf : Top → List TopElem → List TopElem → Answer → Type 0
IsCountOf t phi psi a = (list : List (List TopElem)) × (a ≡ answer.Count (length list) (greatest_degree list)) × IsItsFullList t phi psi list

-- The first isomorphism over the field, or that there is none.
abbrev pub IsIsomorphismOf : Top → List TopElem → List TopElem → Answer → Type 0
IsIsomorphismOf t phi psi (answer.Iso (Some c)) = IsFirstIsomorphism (ops_of_top t) (ops_of t.base) (frob_of_top t) phi psi c
IsIsomorphismOf t phi psi (answer.Iso None) = HasNoIsomorphism (ops_of_top t) (frob_of_top t) phi psi
IsIsomorphismOf t phi psi a = ⊥

-- The first isogeny, or that there is none.
abbrev pub IsIsogenyOf : Top → List TopElem → List TopElem → Answer → Type 0
IsIsogenyOf t phi psi (answer.Isogenous (Some u)) = IsFirstIsogeny (ops_of_top t) (ops_of t.base) (frob_of_top t) phi psi u
IsIsogenyOf t phi psi (answer.Isogenous None) = HasNoIsogeny (ops_of_top t) (frob_of_top t) phi psi
IsIsogenyOf t phi psi a = ⊥

-- The least relation of Frobenius.
abbrev pub IsItsLeastRelation : Top → List TopElem → List (List ℕ) → Type 0
IsItsLeastRelation t phi list = IsLeastRelation (ops_of_top t) (ops_of t.base) (frob_of_top t) phi list

-- Its power of the degree of the rank, or why there is none.
abbrev pub IsPowerOf : Top → List TopElem → Answer → Type 0
IsPowerOf t phi (answer.Relation list) = IsRankPower (ops_of_top t) (ops_of t.base) (frob_of_top t) phi list
IsPowerOf t phi (answer.NoPower m r) = AreDegrees (ops_of_top t) (ops_of t.base) (frob_of_top t) phi m r
IsPowerOf t phi a = ⊥

-- The answer of a form whose operands have these values, where nothing refuses it; the forms that set a
-- field have none here.
abbrev pub Works : Top → List (List ℕ × Value) → Form → Answer → Type 0
Works t ns (form.Module name list) a = a ≡ answer.Named name (value.Module (list_values t list))
Works t ns (form.Ore name u) a = a ≡ answer.Named name (value.Ore (twisted_value t ns u))
Works t ns (form.Show name) a = IsShown (value_of ns name.bytes) a
Works t ns (form.Rank m) a = a ≡ answer.Number (rank_of (module_value t ns m))
Works t ns (form.Char m) a = (p : List ℕ) × (a ≡ answer.BasePoly p) × IsItsCharacteristic t (module_value t ns m) p
Works t ns (form.Height m) a = (h : ℕ) × (a ≡ answer.Number h) × IsItsHeight t (module_value t ns m) h
Works t ns (form.Ordinary m) a = IsTruth a (IsItsHeight t (module_value t ns m) 1)
Works t ns (form.Supersingular m) a = IsTruth a (IsItsHeight t (module_value t ns m) (rank_of (module_value t ns m)))
Works t ns (form.J m k) a = (x : TopElem) × (a ≡ answer.Element x) × IsInvariant (ops_of_top t) (size_of t.base) (module_value t ns m) k x
Works t ns (form.Image m b name) a =
    a ≡ answer.Twisted (image (ops_of_top t) (ops_of t.base) (frob_of_top t) (module_value t ns m) (base_polynomial t.base b))
Works t ns (form.Add u v name) a = a ≡ answer.Twisted (list_add (ops_of_top t) (twisted_value t ns u) (twisted_value t ns v))
Works t ns (form.Sub u v name) a = a ≡ answer.Twisted (list_add (ops_of_top t) (twisted_value t ns u) (list_neg (ops_of_top t) (twisted_value t ns v)))
Works t ns (form.Mul u v name) a = a ≡ answer.Twisted (list_mul (ops_of_top t) (frob_of_top t).frob (twisted_value t ns u) (twisted_value t ns v))
Works t ns (form.Rdiv u v) a =
    IsDivided a (λ c rest. IsRightDivision (ops_of_top t) (frob_of_top t).frob (twisted_value t ns u) (twisted_value t ns v) c rest)
Works t ns (form.Ldiv u v) a =
    IsDivided a (λ c rest. IsLeftDivision (ops_of_top t) (frob_of_top t).frob (twisted_value t ns u) (twisted_value t ns v) c rest)
Works t ns (form.Common u v) a = IsCommonOf t (twisted_value t ns u) (twisted_value t ns v) a
Works t ns (form.Multiple u v) a = IsMultipleOf t (twisted_value t ns u) (twisted_value t ns v) a
Works t ns (form.Check m n u) a =
    IsTruth a (IsHomomorphism (ops_of_top t) (frob_of_top t).frob (module_value t ns m) (module_value t ns n) (twisted_value t ns u))
Works t ns (form.Quotient m u name) a = IsQuotientOf t (module_value t ns m) (twisted_value t ns u) a
Works t ns (form.Iso m n) a = IsIsomorphismOf t (module_value t ns m) (module_value t ns n) a
Works t ns (form.Isogenous m n) a = IsIsogenyOf t (module_value t ns m) (module_value t ns n) a
Works t ns (form.Bounded m n d) a = IsMembersOf a (λ list. IsItsBoundedList t (module_value t ns m) (module_value t ns n) d list)
Works t ns (form.Full m n) a = IsMembersOf a (λ list. IsItsFullList t (module_value t ns m) (module_value t ns n) list)
Works t ns (form.Fullsize m n) a = IsCountOf t (module_value t ns m) (module_value t ns n) a
Works t ns (form.Motive m u) a =
    (list : List (List TopElem)) × (a ≡ answer.Motive list) × IsMotive (ops_of_top t) (frob_of_top t).frob (module_value t ns m) (twisted_value t ns u) list
Works t ns (form.Frob m) a = (list : List (List ℕ)) × (a ≡ answer.Relation list) × IsItsLeastRelation t (module_value t ns m) list
Works t ns (form.Frobpower m) a = IsPowerOf t (module_value t ns m) a
Works t ns (form.Base p s modulus) a = ⊥
Works t ns (form.Over n modulus) a = ⊥
