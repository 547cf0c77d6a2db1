-- Lists and operands: they have one reading, and what their readers find.
use Rattle.std.proofs.Common.{◌≡◌, ◌≢◌, ℕ, ◌<◌, ◌≤◌, Bool, false, List, [], ◌∷◌, ◌++◌, refl, ap, lit<, append_assoc, arith}
use Rattle.script_lang.specs.declared.lexer.Sign.TheVariants.{CloseList, Comma}
use Rattle.script_lang.specs.declared.lexer.Token.{Token}
use Rattle.script_lang.specs.declared.lexer.Token.TheVariants as token
use Rattle.script_lang.specs.declared.sum.Kind.{Kind}
use Rattle.script_lang.specs.declared.sum.Kind.TheVariants as kind
use Rattle.script_lang.specs.declared.sum.ModArg.{ModArg}
use Rattle.script_lang.specs.declared.sum.ModArg.TheVariants as module_operand
use Rattle.script_lang.specs.declared.sum.Name.{Name}
use Rattle.script_lang.specs.declared.sum.OreArg.{OreArg}
use Rattle.script_lang.specs.declared.sum.OreArg.TheVariants as twisted_operand
use Rattle.script_lang.specs.declared.sum.Sum.{Sum}
use Rattle.script_lang.specs.Grammar.{IsLead, IsSum, IsLeadedSum, IsItems, IsList, IsName, IsModOperand, IsOreOperand, binds, Refuses, lead_of, after_lead, twisted_of}
use Rattle.script_lang.proofs.Equal.{same_tail}
use Rattle.script_lang.proofs.OneReading.{sum_fronts, sum_begins, sum_once, lead_read}
use Rattle.script_lang.proofs.Reading.{lead_there}

leaded_once : {k : Kind} {ts r s : List Token} {u v : Sum} → IsLeadedSum k ts r u → binds r < 1 → IsLeadedSum k ts s v → binds s < 1 → (r ≡ s) × (u ≡ v)
leaded_once (IsLeadedSum.has_lead l x) a (IsLeadedSum.has_lead m y) b = sum_once (lead_read l x) a (lead_read m y) b

-- Items that begin with one and `,` go on after it.
after_item : {ts us r : List Token} {s : Sum} {xs : List Sum} → IsLeadedSum kind.TopElement ts (token.Sign Comma ∷ us) s → IsItems ts r xs
    → (ys : List Sum) × IsItems us r ys × (xs ≡ s ∷ ys)
after_item x (IsItems.last_item y) = let e = leaded_once x (lit< tt) y (lit< tt) in cc
after_item x (IsItems.and_item {more = ys} y z) = let e = leaded_once x (lit< tt) y (lit< tt) in (ys, rw (same_tail e.0) z, cc)

items_once : {ts r s : List Token} {xs ys : List Sum} → IsItems ts r xs → IsItems ts s ys → (r ≡ s) × (xs ≡ ys)
items_once (IsItems.last_item x) (IsItems.last_item y) = let e = leaded_once x (lit< tt) y (lit< tt) in (same_tail e.0, cc)
items_once (IsItems.last_item x) (IsItems.and_item y z) = let e = leaded_once x (lit< tt) y (lit< tt) in cc
items_once (IsItems.and_item x z) y =
    let t = after_item x y in
    let e = items_once z t.1 in (e.0, cc)

items_no_close : {ts r : List Token} {xs : List Sum} → IsItems (token.Sign CloseList ∷ ts) r xs → ⊥
items_no_close (IsItems.last_item (IsLeadedSum.has_lead IsLead.plain x)) = sum_fronts x
items_no_close (IsItems.and_item (IsLeadedSum.has_lead IsLead.plain x) y) = sum_fronts x

pub list_once : {ts r s : List Token} {xs ys : List Sum} → IsList ts r xs → IsList ts s ys → (r ≡ s) × (xs ≡ ys)
list_once IsList.no_items IsList.no_items = (refl, refl)
list_once IsList.no_items (IsList.has_items y) = absurd (items_no_close y)
list_once (IsList.has_items x) IsList.no_items = absurd (items_no_close x)
list_once (IsList.has_items x) (IsList.has_items y) = items_once x y

pub name_once : {ts r s : List Token} {m n : Name} → IsName ts r m → IsName ts s n → (r ≡ s) × (m ≡ n)
name_once IsName.is_word IsName.is_word = (refl, refl)

name_no_list : {ts r s : List Token} {n : Name} {xs : List Sum} → IsName ts r n → IsList ts s xs → ⊥
name_no_list IsName.is_word y = elim y [ ]

name_no_sum : {k : Kind} {d : ℕ} {lead : Bool} {ts r s : List Token} {n : Name} {u : Sum} → IsName ts r n → IsSum k d lead ts s u → ⊥
name_no_sum IsName.is_word y = sum_fronts y

list_no_sum : {k : Kind} {d : ℕ} {lead : Bool} {ts r s : List Token} {xs : List Sum} {u : Sum} → IsList ts r xs → IsSum k d lead ts s u → ⊥
list_no_sum IsList.no_items y = sum_fronts y
list_no_sum (IsList.has_items x) y = sum_fronts y

pub module_once : {ts r s : List Token} {m n : ModArg} → IsModOperand ts r m → IsModOperand ts s n → (r ≡ s) × (m ≡ n)
module_once (IsModOperand.named_module x) (IsModOperand.named_module y) = let e = name_once x y in (e.0, ap module_operand.Name e.1)
module_once (IsModOperand.named_module x) (IsModOperand.listed_module y) = absurd (name_no_list x y)
module_once (IsModOperand.listed_module x) (IsModOperand.named_module y) = absurd (name_no_list y x)
module_once (IsModOperand.listed_module x) (IsModOperand.listed_module y) = let e = list_once x y in (e.0, ap module_operand.List e.1)

pub twisted_once : {ts r s : List Token} {u v : OreArg} → IsOreOperand ts r u → binds r < 1 → IsOreOperand ts s v → binds s < 1 → (r ≡ s) × (u ≡ v)
twisted_once (IsOreOperand.named x) a (IsOreOperand.named y) b = let e = name_once x y in (e.0, ap twisted_operand.Name e.1)
twisted_once (IsOreOperand.named x) a (IsOreOperand.listed y) b = absurd (name_no_list x y)
twisted_once (IsOreOperand.named x) a (IsOreOperand.summed y) b = absurd (name_no_sum x y)
twisted_once (IsOreOperand.listed x) a (IsOreOperand.named y) b = absurd (name_no_list y x)
twisted_once (IsOreOperand.listed x) a (IsOreOperand.listed y) b = let e = list_once x y in (e.0, ap twisted_operand.List e.1)
twisted_once (IsOreOperand.listed x) a (IsOreOperand.summed y) b = absurd (list_no_sum x y)
twisted_once (IsOreOperand.summed x) a (IsOreOperand.named y) b = absurd (name_no_sum y x)
twisted_once (IsOreOperand.summed x) a (IsOreOperand.listed y) b = absurd (list_no_sum y x)
twisted_once (IsOreOperand.summed x) a (IsOreOperand.summed y) b = let e = sum_once x a y b in (e.0, ap twisted_operand.Terms e.1)

name_begins : {ts r : List Token} {n : Name} → IsName ts r n → binds ts ≡ 0
name_begins IsName.is_word = refl

list_begins : {ts r : List Token} {xs : List Sum} → IsList ts r xs → binds ts ≡ 0
list_begins IsList.no_items = refl
list_begins (IsList.has_items x) = refl

pub twisted_begins : {ts r : List Token} {u : OreArg} → IsOreOperand ts r u → binds ts ≡ 0
twisted_begins (IsOreOperand.named x) = name_begins x
twisted_begins (IsOreOperand.listed x) = list_begins x
twisted_begins (IsOreOperand.summed x) = sum_begins x

pub two_once : {ts mid between : List Token} {u v x y : OreArg} → IsOreOperand ts mid u → IsOreOperand mid [] v → IsOreOperand ts between x → IsOreOperand between [] y → (u ≡ x) × (v ≡ y)
two_once {y = y} a b c d =
    let o = twisted_begins b in
    let p = twisted_begins d in
    let e = twisted_once a (omega arith) c (omega arith) in
    (e.1, (twisted_once {s = []} {v = y} b (lit< tt) (rw e.0 d) (lit< tt)).1)

-- `list` are the items of `tokens` before `rest`.
pub record ItemsSoFar (tokens rest : List Token) (list : List Sum) : Type 0 where
  pub goes_on : (r : List Token) (xs : List Sum) → IsItems rest r xs → IsItems tokens r (list ++ xs)
  pub comes_here : (r : List Token) (xs : List Sum) → IsItems tokens r xs → (ys : List Sum) × IsItems rest r ys

pub items_more : (tokens rest more : List Token) (s : Sum) (list : List Sum) → ItemsSoFar tokens rest list → IsLeadedSum kind.TopElement rest (token.Sign Comma ∷ more) s
    → ItemsSoFar tokens more (list ++ s ∷ [])
items_more tokens rest more s list f x = record {
  goes_on = λ r xs z. rw append_assoc (f.goes_on r (s ∷ xs) (IsItems.and_item x z));
  comes_here = λ r xs z. let t = after_item x (f.comes_here r xs z).1 in (t.0, t.1);
}

pub items_end : (tokens rest end : List Token) (s : Sum) (list : List Sum) → ItemsSoFar tokens rest list → IsLeadedSum kind.TopElement rest (token.Sign CloseList ∷ end) s
    → IsItems tokens end (list ++ s ∷ [])
items_end tokens rest end s list f x = f.goes_on end (s ∷ []) (IsItems.last_item x)

no_item : (rest : List Token) → Refuses (IsLeadedSum kind.TopElement rest) 1 → (r : List Token) (xs : List Sum) → IsItems rest r xs → ⊥
no_item rest h r xs (IsItems.last_item {s = s} x) = h (token.Sign CloseList ∷ r) s x (lit< tt)
no_item rest h r xs (IsItems.and_item {us = us} {s = s} x y) = h (token.Sign Comma ∷ us) s x (lit< tt)

pub items_refused : (tokens rest r : List Token) (list xs : List Sum) → ItemsSoFar tokens rest list → Refuses (IsLeadedSum kind.TopElement rest) 1 → IsItems tokens r xs → ⊥
items_refused tokens rest r list xs f h x = let u = f.comes_here r xs x in no_item rest h r u.0 u.1

no_end : (rest after : List Token) (s : Sum) → IsLeadedSum kind.TopElement rest after s → binds after < 1 → ((q : List Token) → after ≢ token.Sign CloseList ∷ q) → ((q : List Token) → after ≢ token.Sign Comma ∷ q)
    → (r : List Token) (xs : List Sum) → IsItems rest r xs → ⊥
no_end rest after s x a h g r xs (IsItems.last_item y) = h r (leaded_once x a y (lit< tt)).0
no_end rest after s x a h g r xs (IsItems.and_item {us = us} y z) = g us (leaded_once x a y (lit< tt)).0

pub items_unended : (tokens rest after r : List Token) (s : Sum) (list xs : List Sum) → ItemsSoFar tokens rest list → IsLeadedSum kind.TopElement rest after s → binds after < 1
    → ((q : List Token) → after ≢ token.Sign CloseList ∷ q) → ((q : List Token) → after ≢ token.Sign Comma ∷ q) → IsItems tokens r xs → ⊥
items_unended tokens rest after r s list xs f x a h g y = let u = f.comes_here r xs y in no_end rest after s x a h g r u.0 u.1

pub leaded_there : (k : Kind) (ts rest : List Token) (s : Sum) → IsSum k 16 (lead_of ts) (after_lead ts) rest s → IsLeadedSum k ts rest s
leaded_there k ts rest s x = IsLeadedSum.has_lead (lead_there ts) x

pub leaded_refused : (k : Kind) (ts r : List Token) (s : Sum) → Refuses (IsSum k 16 (lead_of ts) (after_lead ts)) 1 → IsLeadedSum k ts r s → binds r < 1 → ⊥
leaded_refused k ts r s h (IsLeadedSum.has_lead l x) b = h r s (lead_read l x) b

pub module_as_twisted : (ts rest : List Token) (m : ModArg) → IsModOperand ts rest m → IsOreOperand ts rest (twisted_of m)
module_as_twisted ts rest m (IsModOperand.named_module x) = IsOreOperand.named x
module_as_twisted ts rest m (IsModOperand.listed_module x) = IsOreOperand.listed x

module_no_sum : {k : Kind} {d : ℕ} {lead : Bool} {ts r s : List Token} {m : ModArg} {u : Sum} → IsModOperand ts r m → IsSum k d lead ts s u → ⊥
module_no_sum (IsModOperand.named_module x) y = name_no_sum x y
module_no_sum (IsModOperand.listed_module x) y = list_no_sum x y

pub twisted_binds : (ts rest r : List Token) (m : ModArg) (u : OreArg) → IsModOperand ts rest m → 1 ≤ binds rest → IsOreOperand ts r u → binds r < 1 → ⊥
twisted_binds ts rest r m u x a (IsOreOperand.named y) b = let e = module_once x (IsModOperand.named_module y) in omega (arith, ap binds e.0)
twisted_binds ts rest r m u x a (IsOreOperand.listed y) b = let e = module_once x (IsModOperand.listed_module y) in omega (arith, ap binds e.0)
twisted_binds ts rest r m u x a (IsOreOperand.summed y) b = module_no_sum x y

pub twisted_refused : (ts r : List Token) (u : OreArg) → ((q : List Token) (m : ModArg) → IsModOperand ts q m → ⊥) → Refuses (IsSum kind.Twisted 16 false ts) 1
    → IsOreOperand ts r u → binds r < 1 → ⊥
twisted_refused ts r u h g (IsOreOperand.named {n = n} y) b = h r (module_operand.Name n) (IsModOperand.named_module y)
twisted_refused ts r u h g (IsOreOperand.listed {list = xs} y) b = h r (module_operand.List xs) (IsModOperand.listed_module y)
twisted_refused ts r u h g (IsOreOperand.summed {s = s} y) b = g r s y b

pub ruleset operand_forms = (IsList.no_items, IsList.has_items, IsName.is_word, IsModOperand.named_module, IsModOperand.listed_module, IsOreOperand.summed)

pub ruleset operand_ends = (items_more, items_end, items_refused, items_unended, leaded_there, leaded_refused, module_as_twisted, twisted_binds, twisted_refused)
