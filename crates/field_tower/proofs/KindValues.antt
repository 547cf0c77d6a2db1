-- What a base field computes, by kinds.
use Rattle.std.proofs.Common.{◌≡◌, ℕ, suc, ◌+◌, ◌-◌, ◌*◌, ◌%◌, ◌^◌, ◌<◌, ◌≤◌, List, length, slice_index, get_or, bit_xor, sym, refl, ap, ap₂, subst, ◌∙◌, lt-ltb}
use Rattle.std.proofs.lemmas.List.{get_or_read}
use Rattle.ring_core.specs.Ring.{IsElem}
use Rattle.residue_field.specs.Base.{Base, base_ops, ops_of, size_of}
use Rattle.residue_field.proofs.BaseLaws.{degree_of}
use Rattle.residue_field.proofs.BaseForms.{add-xor, neg-two}
use Rattle.field_tower.specs.declared.tables.SumKind.{SumKind}
use Rattle.field_tower.specs.declared.tables.SumKind.TheVariants as sum
use Rattle.field_tower.specs.declared.base.BaseField.TheInside.{Inside}
use Rattle.field_tower.specs.declared.logs.ProductKind.{ProductKind}
use Rattle.field_tower.specs.declared.logs.ProductKind.TheVariants as product
use Rattle.field_tower.specs.steps.Kinds.{AreSumsOf, AreProductsOf}
use Rattle.field_tower.specs.steps.Logs.{IsLogTable}
use Rattle.field_tower.specs.steps.Places.{IsModulus}
use Rattle.residue_field.specs.Prime.{prime_ops}
use Rattle.field_tower.proofs.BaseValues.{below_size, elem-is, size_large}
use Rattle.field_tower.proofs.ModularForms.{IsModular, base_modular}
use Rattle.field_tower.proofs.BaseTables.{table_fits, table-value, row_fits, row-value, modulus_of, count_of, moved}

-- in characteristic two
module _ (k : Base) (two : k.p ≡ 2) where
  binary_below : (a : ℕ) → IsElem (ops_of k) a → a < 2 ^ suc (k.s - 1)
  binary_below a e = subst (λ m. a < m) (ap₂ (λ p s. p ^ s) two (sym (degree_of k))) (below_size k a e)

  pub binary_sum : (a b : ℕ) → IsElem (ops_of k) a → IsElem (ops_of k) b → bit_xor a b ≡ (ops_of k).add a b
  binary_sum a b e d =
      sym (add-xor (k.s - 1) a b k.modulus (binary_below a e) (binary_below b d))
      ∙ ap (λ p. (base_ops p (k.s - 1) k.modulus).add a b) (sym two)

  pub binary_negative : (a : ℕ) → IsElem (ops_of k) a → a ≡ (ops_of k).neg a
  binary_negative a e =
      sym (neg-two (k.s - 1) a k.modulus (binary_below a e))
      ∙ ap (λ p. (base_ops p (k.s - 1) k.modulus).neg a) (sym two)

-- the base field of which the parts are these
abbrev pub base_of : Inside → Base
base_of i = record { p = i.p; s = i.s; modulus = i.modulus.items; is_base = i.is_base }

-- i as the fields have it, n as the contracts name it
module _ (i : Inside) (n : Base) (same : base_of i ≡ n) where
  abbrev k : Base
  k = base_of i

  abbrev q : ℕ
  q = i.q

  pub count : i.q ≡ size_of n
  count = i.count ∙ ap size_of same

  pub two_codes : 2 ≤ i.q
  two_codes = subst (λ m. 2 ≤ m) (sym count) (size_large n)

  pub code_in : (a : ℕ) → a < i.q → IsElem (ops_of n) a
  code_in a l = elem-is n a ∙ lt-ltb a (size_of n) (subst (λ m. a < m) count l)

  pub below : (a : ℕ) → IsElem (ops_of n) a → a < q
  below a e = subst (λ m. a < m) (sym count) (below_size n a e)

  -- the modulus as the codes have it
  module _ (w : List ℕ) (is : w ≡ k.modulus) where
    pub codes_monic : IsModulus (prime_ops k.p) w
    codes_monic =
        modulus_of k.p k.s q w k.modulus is k.is_base.listed k.is_base.positive i.count i.small k.is_base.count k.is_base.elems k.is_base.top

    pub codes_count : q ≡ k.p ^ (length w - 1)
    codes_count = count_of k.p k.s q w k.modulus is k.is_base.count i.count

    pub codes_are : base_ops k.p (length w - 2) w ≡ ops_of n
    codes_are = moved (λ d u. base_ops k.p (length w - 2) w ≡ base_ops k.p d u) w k.modulus k.s is k.is_base.count refl ∙ ap ops_of same

  -- modulo the prime
  module _ (one : k.s - 1 ≡ 0) where
    modular : IsModular (ops_of n) k.p
    modular = subst (λ m. IsModular (ops_of m) k.p) same (base_modular k (sym (degree_of k) ∙ ap suc one))

    pub modular_below : (a : ℕ) → IsElem (ops_of n) a → a < k.p
    modular_below = modular.low

    pub modular-add : (a b : ℕ) → IsElem (ops_of n) a → IsElem (ops_of n) b → (a + b) % k.p ≡ (ops_of n).add a b
    modular-add a b e d = sym (modular.add_is a b (modular.low a e) (modular.low b d))

    pub modular-mul : (a b : ℕ) → IsElem (ops_of n) a → IsElem (ops_of n) b → (a * b) % k.p ≡ (ops_of n).mul a b
    modular-mul a b e d = sym (modular.mul_is a b (modular.low a e) (modular.low b d))

    pub modular-neg : (a : ℕ) → IsElem (ops_of n) a → (k.p - a) % k.p ≡ (ops_of n).neg a
    modular-neg a e = sym (modular.neg_is a (modular.low a e))

  -- in characteristic two
  module _ (two : k.p ≡ 2) where
    here : n.p ≡ 2
    here = sym (ap (λ m. m.p) same) ∙ two

    pub binary-add : (a b : ℕ) → IsElem (ops_of n) a → IsElem (ops_of n) b → bit_xor a b ≡ (ops_of n).add a b
    binary-add = binary_sum n here

    pub binary-neg : (a : ℕ) → IsElem (ops_of n) a → a ≡ (ops_of n).neg a
    binary-neg = binary_negative n here

  -- the kind of the sums
  pub sums_are : (kind : SumKind) → i.tables.sums.kind ≡ kind → AreSumsOf k.p (k.s - 1) q k.modulus i.tables.sums.table.items i.tables.sums.negatives.items kind
  sums_are kind is = subst (AreSumsOf k.p (k.s - 1) q k.modulus i.tables.sums.table.items i.tables.sums.negatives.items) is i.are_sums

  module _ (is : i.tables.sums.kind ≡ sum.Tabled) where
    pub sum_fits : (a b : ℕ) → IsElem (ops_of n) a → IsElem (ops_of n) b → a * q + b < length i.tables.sums.table.items
    sum_fits a b e d = table_fits q _ _ a b (sums_are sum.Tabled is).0 (below a e) (below b d)

    pub negative_fits : (a : ℕ) → IsElem (ops_of n) a → a < length i.tables.sums.negatives.items
    negative_fits a e = row_fits q _ _ a (sums_are sum.Tabled is).1 (below a e)

    pub tabled-add : (a b x : ℕ) → IsElem (ops_of n) a → IsElem (ops_of n) b → x ≡ get_or i.tables.sums.table.items (a * q + b) x → x ≡ (ops_of n).add a b
    tabled-add a b x e d read =
        table-value q _ _ a b x (sums_are sum.Tabled is).0 (below a e) (below b d) read ∙ ap (λ m. (ops_of m).add a b) same

    pub tabled-neg : (a x : ℕ) → IsElem (ops_of n) a → x ≡ get_or i.tables.sums.negatives.items a x → x ≡ (ops_of n).neg a
    tabled-neg a x e read =
        row-value q _ _ a x (sums_are sum.Tabled is).1 (below a e) read ∙ ap (λ m. (ops_of m).neg a) same

  -- the kind of the products
  pub products_are : (kind : ProductKind) → i.tables.products.kind ≡ kind → AreProductsOf k.p (k.s - 1) q k.modulus i.tables.products.powers.items i.tables.products.logs.items kind
  products_are kind is = subst (AreProductsOf k.p (k.s - 1) q k.modulus i.tables.products.powers.items i.tables.products.logs.items) is i.are_products

  module _ (is : i.tables.products.kind ≡ product.Logged) where
    logs : IsLogTable q (ops_of k).mul i.tables.products.powers.items i.tables.products.logs.items
    logs = products_are product.Logged is

    pub log_fits : (a : ℕ) → IsElem (ops_of n) a → a < length i.tables.products.logs.items
    log_fits a e = subst (λ m. a < m) (sym logs.count) (below a e)

    log_read : (a x : ℕ) → IsElem (ops_of n) a → x ≡ get_or i.tables.products.logs.items a x → x ≡ slice_index i.tables.products.logs.items a
    log_read a x e read = get_or_read i.tables.products.logs.items a x (log_fits a e) read 0

    pub power_fits : (a b x y : ℕ) → IsElem (ops_of n) a → IsElem (ops_of n) b → x ≡ get_or i.tables.products.logs.items a x → y ≡ get_or i.tables.products.logs.items b y → x + y < length i.tables.products.powers.items
    power_fits a b x y e d at_a at_b =
        subst (λ m. m < length i.tables.products.powers.items) (sym (ap₂ ◌+◌ (log_read a x e at_a) (log_read b y d at_b))) (logs.fits a b (below a e) (below b d))

    pub logged-mul : (a b x y z : ℕ) → IsElem (ops_of n) a → IsElem (ops_of n) b → x ≡ get_or i.tables.products.logs.items a x → y ≡ get_or i.tables.products.logs.items b y
        → z ≡ get_or i.tables.products.powers.items (x + y) z → z ≡ (ops_of n).mul a b
    logged-mul a b x y z e d at_a at_b read =
        get_or_read i.tables.products.powers.items (x + y) z (power_fits a b x y e d at_a at_b) read 0
        ∙ ap (slice_index i.tables.products.powers.items) (ap₂ ◌+◌ (log_read a x e at_a) (log_read b y d at_b))
        ∙ logs.value a b (below a e) (below b d) ∙ ap (λ m. (ops_of m).mul a b) same

    pub log_low : (a x : ℕ) → IsElem (ops_of n) a → 0 < a → x ≡ get_or i.tables.products.logs.items a x → x < q
    log_low a x e some read = subst (λ m. m < q) (sym (log_read a x e read)) (logs.low a some (below a e))

    pub powers_long : q ≤ length i.tables.products.powers.items
    powers_long = logs.long
