-- The kinds of sums: the letter that ends a term, the letters that are factors, and the kind of the
-- sums in parentheses.
use Rattle.std.specs.Prelude.{ℕ, Bool, true, false, Option, Some, None, if◌then◌else◌}
use Rattle.script_lang.specs.declared.lexer.Letter.{Letter}
use Rattle.script_lang.specs.declared.lexer.Letter.TheVariants as letter
use Rattle.script_lang.specs.declared.sum.Factor.{Factor}
use Rattle.script_lang.specs.declared.sum.Factor.TheVariants as factor
use Rattle.script_lang.specs.declared.sum.Kind.{Kind}
use Rattle.script_lang.specs.declared.sum.Kind.TheVariants.{BaseModulus, TopModulus, Polynomial, Twisted, BaseElement, TopElement}

abbrev pub ending : Kind → Option Letter
ending BaseModulus = Some letter.A
ending TopModulus = Some letter.Z
ending Polynomial = Some letter.CapitalT
ending Twisted = Some letter.SmallT
ending BaseElement = None
ending TopElement = None

abbrev pub takes_a : Kind → Bool
takes_a BaseModulus = false
takes_a TopModulus = true
takes_a Polynomial = true
takes_a Twisted = true
takes_a BaseElement = true
takes_a TopElement = true

abbrev pub takes_z : Kind → Bool
takes_z BaseModulus = false
takes_z TopModulus = false
takes_z Polynomial = false
takes_z Twisted = true
takes_z BaseElement = false
takes_z TopElement = true

-- The factor that a power of a letter is in a sum of this kind.
abbrev pub letter_factor : Kind → Letter → ℕ → Option Factor
letter_factor k letter.A n = if takes_a k then Some (factor.A n) else None
letter_factor k letter.Z n = if takes_z k then Some (factor.Z n) else None
letter_factor k letter.SmallT n = None
letter_factor k letter.CapitalT n = None
letter_factor k letter.X n = None

abbrev pub inner : Kind → Option Kind
inner BaseModulus = None
inner TopModulus = Some BaseElement
inner Polynomial = Some BaseElement
inner Twisted = Some TopElement
inner BaseElement = Some BaseElement
inner TopElement = Some TopElement
