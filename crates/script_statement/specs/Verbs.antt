-- The first words of statements, and the form that each gives its operands.
use Rattle.std.specs.Prelude.{ℕ, if◌then◌else◌, Option, Some, None, List, codes}
use Rattle.std.specs.Str.{bytes_eq}
use Rattle.script_statement.specs.declared.form.Form.{Form}
use Rattle.script_statement.specs.declared.form.Form.TheVariants as form
use Rattle.script_lang.specs.declared.ModArg.{ModArg}
use Rattle.script_lang.specs.declared.Name.{Name}
use Rattle.script_lang.specs.declared.OreArg.{OreArg}
use Rattle.script_statement.specs.declared.verb.Verb.{Verb}
use Rattle.script_statement.specs.declared.verb.Verb.TheVariants as verb
use Rattle.script_statement.specs.declared.verb.ModuleVerb.TheVariants as module_verb
use Rattle.script_statement.specs.declared.verb.PairVerb.TheVariants as pair_verb
use Rattle.script_statement.specs.declared.verb.TwistedVerb.TheVariants as twisted_verb
use Rattle.script_statement.specs.declared.verb.Question.{Question}
use Rattle.script_statement.specs.declared.verb.Question.TheVariants as question
use Rattle.script_statement.specs.declared.verb.Relation.{Relation}
use Rattle.script_statement.specs.declared.verb.Relation.TheVariants as relation
use Rattle.script_statement.specs.declared.verb.Operation.{Operation}
use Rattle.script_statement.specs.declared.verb.Operation.TheVariants as operation
use Rattle.script_statement.specs.declared.verb.Division.{Division}
use Rattle.script_statement.specs.declared.verb.Division.TheVariants as division

-- The verbs whose operands are twisted polynomials.
abbrev pub twisted_verb_of : List ℕ → Option Verb
twisted_verb_of w =
    if bytes_eq w (codes "add") then Some (verb.OfTwisted (twisted_verb.Compute operation.Add))
    else if bytes_eq w (codes "sub") then Some (verb.OfTwisted (twisted_verb.Compute operation.Sub))
    else if bytes_eq w (codes "mul") then Some (verb.OfTwisted (twisted_verb.Compute operation.Mul))
    else if bytes_eq w (codes "rdiv") then Some (verb.OfTwisted (twisted_verb.Divide division.Rdiv))
    else if bytes_eq w (codes "ldiv") then Some (verb.OfTwisted (twisted_verb.Divide division.Ldiv))
    else if bytes_eq w (codes "common") then Some (verb.OfTwisted (twisted_verb.Divide division.Common))
    else if bytes_eq w (codes "multiple") then Some (verb.OfTwisted (twisted_verb.Divide division.Multiple))
    else None

-- Those, and the verbs of two Drinfeld modules.
abbrev pub pair_verb_of : List ℕ → Option Verb
pair_verb_of w =
    if bytes_eq w (codes "check") then Some (verb.OfModule (module_verb.Pair pair_verb.Check))
    else if bytes_eq w (codes "iso") then Some (verb.OfModule (module_verb.Pair (pair_verb.Relate relation.Iso)))
    else if bytes_eq w (codes "isogenous") then Some (verb.OfModule (module_verb.Pair (pair_verb.Relate relation.Isogenous)))
    else if bytes_eq w (codes "bounded") then Some (verb.OfModule (module_verb.Pair pair_verb.Bounded))
    else if bytes_eq w (codes "full") then Some (verb.OfModule (module_verb.Pair (pair_verb.Relate relation.Full)))
    else if bytes_eq w (codes "fullsize") then Some (verb.OfModule (module_verb.Pair (pair_verb.Relate relation.Fullsize)))
    else twisted_verb_of w

-- Those, and the verbs of one Drinfeld module with more operands.
abbrev pub module_verb_of : List ℕ → Option Verb
module_verb_of w =
    if bytes_eq w (codes "j") then Some (verb.OfModule module_verb.J)
    else if bytes_eq w (codes "image") then Some (verb.OfModule module_verb.Image)
    else if bytes_eq w (codes "quotient") then Some (verb.OfModule module_verb.Quotient)
    else if bytes_eq w (codes "motive") then Some (verb.OfModule module_verb.Motive)
    else pair_verb_of w

-- Those, and the questions on one Drinfeld module.
abbrev pub question_verb_of : List ℕ → Option Verb
question_verb_of w =
    if bytes_eq w (codes "rank") then Some (verb.OfModule (module_verb.Ask question.Rank))
    else if bytes_eq w (codes "char") then Some (verb.OfModule (module_verb.Ask question.Char))
    else if bytes_eq w (codes "height") then Some (verb.OfModule (module_verb.Ask question.Height))
    else if bytes_eq w (codes "ordinary") then Some (verb.OfModule (module_verb.Ask question.Ordinary))
    else if bytes_eq w (codes "supersingular") then Some (verb.OfModule (module_verb.Ask question.Supersingular))
    else if bytes_eq w (codes "frob") then Some (verb.OfModule (module_verb.Ask question.Frob))
    else if bytes_eq w (codes "frobpower") then Some (verb.OfModule (module_verb.Ask question.Frobpower))
    else module_verb_of w

-- The verb that a word is, for the 29 words with which statements begin.
abbrev pub verb_of : List ℕ → Option Verb
verb_of w =
    if bytes_eq w (codes "base") then Some verb.Base
    else if bytes_eq w (codes "over") then Some verb.Over
    else if bytes_eq w (codes "module") then Some verb.Module
    else if bytes_eq w (codes "ore") then Some verb.Ore
    else if bytes_eq w (codes "show") then Some verb.Show
    else question_verb_of w

abbrev pub asked : Question → ModArg → Form
asked question.Rank m = form.Rank m
asked question.Char m = form.Char m
asked question.Height m = form.Height m
asked question.Ordinary m = form.Ordinary m
asked question.Supersingular m = form.Supersingular m
asked question.Frob m = form.Frob m
asked question.Frobpower m = form.Frobpower m

abbrev pub related : Relation → ModArg → ModArg → Form
related relation.Iso m n = form.Iso m n
related relation.Isogenous m n = form.Isogenous m n
related relation.Full m n = form.Full m n
related relation.Fullsize m n = form.Fullsize m n

abbrev pub computed : Operation → OreArg → OreArg → Option Name → Form
computed operation.Add u v name = form.Add u v name
computed operation.Sub u v name = form.Sub u v name
computed operation.Mul u v name = form.Mul u v name

abbrev pub divided : Division → OreArg → OreArg → Form
divided division.Rdiv u v = form.Rdiv u v
divided division.Ldiv u v = form.Ldiv u v
divided division.Common u v = form.Common u v
divided division.Multiple u v = form.Multiple u v
