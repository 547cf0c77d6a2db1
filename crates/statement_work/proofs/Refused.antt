-- What follows where the first of several refusals is none.
use Rattle.std.proofs.Common.{◌≡◌, Bool, true, false, Option, Some, None, refl, sym}
use Rattle.std.specs.Option.{option_or}
use Rattle.std.proofs.lemmas.Option.{none-some}
use Rattle.statement_work.specs.Refusals.{when}

pub none_left : {A : Type 0} (a b : Option A) → option_or a b ≡ None → a ≡ None
none_left None b h = refl
none_left (Some x) b h = h

pub none_right : {A : Type 0} (a b : Option A) → option_or a b ≡ None → b ≡ None
none_right None b h = h
none_right (Some x) b h = absurd (none-some x (sym h))

pub not_when : {A : Type 0} (b : Bool) (x : A) → when b x ≡ None → b ≡ false
not_when true x h = absurd (none-some x (sym h))
not_when false x h = refl
