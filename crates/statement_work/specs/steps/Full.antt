-- What full lists tell, and which forms have theirs kept.
use Rattle.std.specs.Prelude.{Bool, true, false, List}
use Rattle.residue_field.specs.declared.TopElem.{TopElem}
use Rattle.residue_field.specs.Top.{Top}
use Rattle.script_statement.specs.declared.Form.{Form}
use Rattle.script_statement.specs.declared.Form.TheVariants as form
use Rattle.answer.specs.declared.Answer.{Answer}
use Rattle.statement_work.specs.declared.lists.OfFull.{OfFull}
use Rattle.statement_work.specs.declared.lists.OfFull.TheVariants as full
use Rattle.statement_work.specs.Works.{IsMembersOf, IsItsFullList, IsCountOf, IsIsogenyOf}

abbrev pub IsTold : Top → List TopElem → List TopElem → OfFull → Answer → Type 0
IsTold t phi psi full.Members a = IsMembersOf a (λ list. IsItsFullList t phi psi list)
IsTold t phi psi full.Count a = IsCountOf t phi psi a
IsTold t phi psi full.First a = IsIsogenyOf t phi psi a

-- The form has the full list of its two modules kept.
abbrev pub keeps_list : Form → Bool
keeps_list (form.Isogenous m n) = true
keeps_list (form.Full m n) = true
keeps_list (form.Fullsize m n) = true
keeps_list f = false
