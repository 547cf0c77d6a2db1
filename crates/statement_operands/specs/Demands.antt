-- What a form asks of the state, apart from what it does: the field that it needs, its operands, and the
-- name that it gives.
use Rattle.std.specs.Prelude.{Option, Some, None, List}
use Rattle.script_statement.specs.declared.Form.{Form}
use Rattle.script_statement.specs.declared.Form.TheVariants as form
use Rattle.script_lang.specs.declared.ModArg.{ModArg}
use Rattle.script_lang.specs.declared.OreArg.{OreArg}
use Rattle.script_lang.specs.declared.Name.{Name}
use Rattle.script_lang.specs.declared.Sum.{Sum}
use Rattle.statement_operands.specs.declared.demands.Need.{Need}
use Rattle.statement_operands.specs.declared.demands.Need.TheVariants as need

-- `phi` and `psi` are operands that are modules, `u` and `v` such that are twisted polynomials; `shown`
-- is the name of a value of either kind, and `list` the list of a new module.
pub record Demands : Type 0 where
  pub field : Need
  pub phi : Option ModArg
  pub psi : Option ModArg
  pub u : Option OreArg
  pub v : Option OreArg
  pub shown : Option Name
  pub list : Option (List Sum)
  pub gives : Option Name

abbrev pub nothing : Need → Demands
nothing n = record { field = n; phi = None; psi = None; u = None; v = None; shown = None; list = None; gives = None }

abbrev pub of_module : ModArg → Demands
of_module m = record (nothing need.ATop) { phi = Some m }

abbrev pub of_modules : ModArg → ModArg → Demands
of_modules m n = record (nothing need.ATop) { phi = Some m; psi = Some n }

abbrev pub of_twisted : OreArg → OreArg → Demands
of_twisted u v = record (nothing need.ATop) { u = Some u; v = Some v }

abbrev pub giving : Option Name → Demands → Demands
giving name d = record d { gives = name }

abbrev pub demands : Form → Demands
demands (form.Base p s modulus) = nothing need.NoBase
demands (form.Over n modulus) = nothing need.NoTop
demands (form.Module name list) = record (nothing need.ATop) { list = Some list; gives = Some name }
demands (form.Ore name u) = record (nothing need.ATop) { u = Some u; gives = Some name }
demands (form.Show name) = record (nothing need.ATop) { shown = Some name }
demands (form.Rank m) = of_module m
demands (form.Char m) = of_module m
demands (form.Height m) = of_module m
demands (form.Ordinary m) = of_module m
demands (form.Supersingular m) = of_module m
demands (form.J m k) = of_module m
demands (form.Image m a name) = giving name (of_module m)
demands (form.Add u v name) = giving name (of_twisted u v)
demands (form.Sub u v name) = giving name (of_twisted u v)
demands (form.Mul u v name) = giving name (of_twisted u v)
demands (form.Rdiv u v) = of_twisted u v
demands (form.Ldiv u v) = of_twisted u v
demands (form.Common u v) = of_twisted u v
demands (form.Multiple u v) = of_twisted u v
demands (form.Check m n u) = record (of_modules m n) { u = Some u }
demands (form.Quotient m u name) = giving name (record (of_module m) { u = Some u })
demands (form.Iso m n) = of_modules m n
demands (form.Isogenous m n) = of_modules m n
demands (form.Bounded m n d) = of_modules m n
demands (form.Full m n) = of_modules m n
demands (form.Fullsize m n) = of_modules m n
demands (form.Motive m u) = record (of_module m) { u = Some u }
demands (form.Frob m) = of_module m
demands (form.Frobpower m) = of_module m
