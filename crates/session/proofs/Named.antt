-- The names after a result that has a new name, or none.
use Rattle.std.proofs.Common.{◌≡◌, ℕ, Option, Some, None, option_map, List, refl, sym, ap}
use Rattle.std.proofs.lemmas.Option.{none-some}
use Rattle.script_lang.specs.declared.Name.{Name}
use Rattle.script_lang.proofs.Equal.{same_some}
use Rattle.answer.specs.declared.Value.{Value}
use Rattle.session.specs.Steps.{added, with_name}

pub some_name : (gives : Option Name) (key : List ℕ) (v : Option Value) (ns : List (List ℕ × Value)) → Some key ≡ option_map (λ n. n.bytes) gives → added key v ns ≡ with_name gives v ns
some_name None key v ns e = absurd (none-some key (sym e))
some_name (Some name) key v ns e = ap (λ k. added k v ns) (same_some e)

pub no_name : (gives : Option Name) (v : Option Value) (ns : List (List ℕ × Value)) → None ≡ option_map (λ n. n.bytes) gives → ns ≡ with_name gives v ns
no_name None v ns e = refl
no_name (Some name) v ns e = absurd (none-some name.bytes e)

-- a name that is given
pub given_name : (gives : Option Name) (key : List ℕ) → Some key ≡ option_map (λ n. n.bytes) gives → (name : Name) × (gives ≡ Some name)
given_name None key e = absurd (none-some key (sym e))
given_name (Some name) key e = (name, refl)
