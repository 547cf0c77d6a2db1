-- How a base field computes, by kinds.
use Rattle.std.specs.Prelude.{◌≡◌, ℕ, List}
use denote.Struct.Props.{props}
use Rattle.field_tower.specs.declared.tables.SumKind.{SumKind}
use Rattle.field_tower.specs.declared.tables.SumKind.TheVariants as sum
use Rattle.field_tower.specs.declared.tables.Sums.{Sums}
use Rattle.field_tower.specs.declared.logs.ProductKind.{ProductKind}
use Rattle.field_tower.specs.declared.logs.ProductKind.TheVariants as product
use Rattle.field_tower.specs.declared.logs.Products.{Products}
use Rattle.field_tower.specs.steps.Tables.{IsRow, IsTable}
use Rattle.field_tower.specs.steps.Logs.{IsLogTable}
use Rattle.residue_field.specs.Base.{base_ops}

-- The sums and negatives of the codes of residues modulo `modulus`, of degree `n + 1`.
abbrev pub AreSumsOf : ℕ → ℕ → ℕ → List ℕ → List ℕ → List ℕ → SumKind → Type 0
AreSumsOf p n q modulus table negatives sum.Modular = n ≡ 0
AreSumsOf p n q modulus table negatives sum.Binary = p ≡ 2
AreSumsOf p n q modulus table negatives sum.Tabled =
    IsTable q (base_ops p n modulus).add table × IsRow q (base_ops p n modulus).neg negatives
AreSumsOf p n q modulus table negatives sum.Digital = Unit {0}

abbrev pub AreSums : ℕ → ℕ → ℕ → List ℕ → Sums → Type 0
AreSums p n q modulus t = AreSumsOf p n q modulus t.table.items t.negatives.items t.kind

sums-prop : (p n q : ℕ) (modulus table negatives : List ℕ) (kind : SumKind) → IsProp (AreSumsOf p n q modulus table negatives kind)
sums-prop p n q modulus table negatives sum.Modular = Prim.hlevel props
sums-prop p n q modulus table negatives sum.Binary = Prim.hlevel props
sums-prop p n q modulus table negatives sum.Tabled = Prim.hlevel props
sums-prop p n q modulus table negatives sum.Digital = Prim.hlevel props

pub AreSums-prop : (p n q : ℕ) (modulus : List ℕ) (t : Sums) → IsProp (AreSums p n q modulus t)
AreSums-prop p n q modulus t = sums-prop p n q modulus t.table.items t.negatives.items t.kind

-- The products of the same codes.
abbrev pub AreProductsOf : ℕ → ℕ → ℕ → List ℕ → List ℕ → List ℕ → ProductKind → Type 0
AreProductsOf p n q modulus powers logs product.Modular = n ≡ 0
AreProductsOf p n q modulus powers logs product.Logged = IsLogTable q (base_ops p n modulus).mul powers logs
AreProductsOf p n q modulus powers logs product.Digital = Unit {0}

abbrev pub AreProducts : ℕ → ℕ → ℕ → List ℕ → Products → Type 0
AreProducts p n q modulus t = AreProductsOf p n q modulus t.powers.items t.logs.items t.kind

products-prop : (p n q : ℕ) (modulus powers logs : List ℕ) (kind : ProductKind) → IsProp (AreProductsOf p n q modulus powers logs kind)
products-prop p n q modulus powers logs product.Modular = Prim.hlevel props
products-prop p n q modulus powers logs product.Logged = Prim.hlevel props
products-prop p n q modulus powers logs product.Digital = Prim.hlevel props

pub AreProducts-prop : (p n q : ℕ) (modulus : List ℕ) (t : Products) → IsProp (AreProducts p n q modulus t)
AreProducts-prop p n q modulus t = products-prop p n q modulus t.powers.items t.logs.items t.kind
