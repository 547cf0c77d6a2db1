-- The rows that were settled, divided by their tops, sorted and cleared are the standard basis of their module.
use Rattle.std.proofs.Common.{◌≡◌, ◌≢◌, ℕ, ◌+◌, ◌-◌, ◌*◌, ◌%◌, ◌<◌, ◌≤◌, true, Option, List, [], ◌∷◌, length, nat_lt, inl, inr, refl, sym, ◌∙◌, ap, subst, arith, lt-ltb, ltb-true, ltb-false}
use mathlib.Core.Path.{fun_ext}
use Rattle.std.proofs.lemmas.Bool.{and_from}
use Rattle.ring_core.specs.Ring.{RingOps, IsRing}
use Rattle.ring_core.specs.Field.{IsField}
use Rattle.ring_core.proofs.Carrier.{RingOn, Element, elements, same_element}
use Rattle.linear_algebra.specs.Linear.{row_at, entry}
use Rattle.linear_algebra.proofs.Sums.{by_bool, same_or_other}
use Rattle.linear_algebra.proofs.Lift.{AllIn, rows_of}
use Rattle.linear_algebra.proofs.Dependent.{field_domain}
use Rattle.flat_modules.specs.Flat.{are_flat, lead_at, IsStandard, IsStandardBasis, IsInModule}
use Rattle.flat_modules.proofs.Lists.{flat_in, to_reached}
use Rattle.flat_modules.proofs.Unique.{Reached, standard_places}
use Rattle.flat_modules.proofs.OneBasis.{to_standard}
use Rattle.flat_modules.proofs.Only.{only_combination}
use Rattle.flat_modules.proofs.Module.{from_reached}
use Rattle.flat_reduce.specs.steps.Turns.{Turns}
use Rattle.flat_reduce.specs.steps.Settled.{IsUnsettled}
use Rattle.popov_basis.specs.steps.Leading.{IsLeading, AreCleared}
use Rattle.flat_reduce.proofs.Reduced.{different_places}
use Rattle.popov_basis.proofs.SameModule.{Reaches, SameModule, reaches_all, same_turns, leading_into, leading_back}

-- settled rows of equal length are the same row
module _ {E : Type 0} (w : ℕ) (slot : List (Option ℕ)) (image : List (List E)) (settled : IsUnsettled w (length image) (length image) slot image) where
  pub same_row : RingOps E → (i k : ℕ) → 0 < length (row_at image i) → 0 < length (row_at image k) → lead_at image i % w ≡ lead_at image k % w → i ≡ k
  same_row r i k li lk e = elim (same_or_other i k) [
    | inl q ↦ q
    | inr ne ↦ absurd (different_places r w (length image) slot image refl settled i k (λ z. let v = ap length z in omega (arith, v, li)) (λ z. let v = ap length z in omega (arith, v, lk)) ne e)
  ]

  pub settled_apart : RingOps E → (i k : ℕ) → i ≢ k → 0 < length (row_at image i) → length (row_at image i) ≢ length (row_at image k)
  settled_apart r i k ne l e = ne (same_row r i k l (omega (arith, l, e)) (ap (λ n. (n - 1) % w) e))

  module _ (r : RingOps E) (above : ℕ) (list : List (List E)) (s : IsLeading r image above list) where
    pub leading_places : (i k : ℕ) → i < length list → k < length list → i ≢ k → lead_at list i % w ≢ lead_at list k % w
    leading_places i k li lk ne e =
        let a = s.source i li in
        let b = s.source k lk in
        let ea = a.is.multiple.same_len in
        let eb = b.is.multiple.same_len in
        let fa = s.full i li in
        let fb = s.full k lk in
        let row = same_row r a.row b.row (omega (arith, ea, fa)) (omega (arith, eb, fb)) (ap (λ n. (n - 1) % w) (sym ea) ∙ e ∙ ap (λ n. (n - 1) % w) eb) in
        let lens = ap (λ j. length (row_at image j)) row in
        by_bool (nat_lt i k)
        (λ v. let u = s.rising i k (ltb-true i k v) lk in omega (arith, u, ea, eb, lens))
        (λ v. let w : k ≤ i = ltb-false i k v in let u = s.rising k i (omega (arith, w, ne)) li in omega (arith, u, ea, eb, lens))

module _ {E : Type 0} (r : RingOps E) (inv : E → Option E) (field : IsField r inv) (w : ℕ) (posw : 0 < w) where
  abbrev ring : IsRing r
  ring = field.ring

  abbrev S : RingOn (Element r)
  S = elements ring

  -- rows that are standard and have the same module are its standard basis
  module _ (rows new : List (List E)) (ri : are_flat r rows ≡ true) (ni : are_flat r new ≡ true) (standard : IsStandard r w new) (into : Reaches r ring w rows new (flat_in r ring rows ri) (flat_in r ring new ni))
      (back : Reaches r ring w new rows (flat_in r ring new ni) (flat_in r ring rows ri)) where
    pub is_basis : IsStandardBasis r w (IsInModule r w rows) new
    is_basis = record {
      basis = record {
        shape = ni;
        within = λ i l. from_reached r ring w rows ri (row_at new i) (flat_in r ring new ni i) (into i l);
        spans = λ x xc s.
            let xi = flat_in r ring (x ∷ []) (and_from _ _ xc refl) 0 in
            only_combination r inv field w posw new ni (λ i. nat_lt i (length new)) (lead_at new)
            (standard_places S (field_domain r inv field) w posw (length new) (lead_at new) (rows_of r (entry r new) (flat_in r ring new ni)) (to_standard r inv field w new ni standard)) (λ i l. lt-ltb i (length new) l) x
            (from_reached r ring w new ni x xi (reaches_all r ring w new rows (flat_in r ring new ni) (flat_in r ring rows ri) back _ (to_reached r ring w rows s.by ri s.polys x xi s.is)));
      };
      standard = standard;
    }

  module _ (rows image left columns left2 columns2 list new : List (List E)) (slot : List (Option ℕ)) (above : ℕ) (ri : are_flat r rows ≡ true) (ni : are_flat r new ≡ true) (li : are_flat r list ≡ true)
      (turned : Turns r w (length rows) rows left columns image left2 columns2) (settled : IsUnsettled w (length image) (length image) slot image)
      (leads : IsLeading r image above list) (all : (k : ℕ) → length (row_at image k) ≤ above) (cleared : AreCleared r w (length list) list new) where
    abbrev rows_in : AllIn r (entry r rows)
    rows_in = flat_in r ring rows ri

    abbrev list_in : AllIn r (entry r list)
    list_in = flat_in r ring list li

    first : SameModule r ring w rows image rows_in
    first = same_turns r ring w (length rows) rows left columns image left2 columns2 rows_in refl turned

    last : SameModule r ring w list new list_in
    last = same_turns r ring w (length list) list [] [] new [] [] list_in refl cleared.turned

    list_into : Reaches r ring w rows list rows_in list_in
    list_into i l = reaches_all r ring w rows image rows_in first.bi first.into _ (leading_into r ring w image list above first.bi list_in leads i l)

    list_back : Reaches r ring w list rows list_in rows_in
    list_back i l = reaches_all r ring w list image list_in first.bi (leading_back r ring w image list above first.bi list_in leads all) _ (first.back i l)

    leads_same : (k : ℕ) → lead_at new k ≡ lead_at list k
    leads_same k = ap (λ n. n - 1) (cleared.lens k)

    standard : IsStandard r w new
    standard = record {
      rising = λ i k l b.
          let count = cleared.len in
          let u = leads.rising i k l (omega (arith, b, count)) in
          let f = leads.full i (omega (arith, l, b, count)) in
          let ei = leads_same i in
          let ek = leads_same k in
          omega (arith, u, f, ei, ek);
      places = λ i k bi bk ne e.
          let count = cleared.len in
          leading_places w slot image settled r above list leads i k (omega (arith, bi, count)) (omega (arith, bk, count)) ne
          (ap (λ n. n % w) (sym (leads_same i)) ∙ e ∙ ap (λ n. n % w) (leads_same k));
      one = λ i l.
          let count = cleared.len in
          ap (entry r new i) (leads_same i) ∙ cleared.one i ∙ (leads.source i (omega (arith, l, count))).is.multiple.one;
      clear = λ i k e bi bk ne.
          let count = cleared.len in
          ap (λ n. entry r new i (n + e * w)) (leads_same k) ∙ cleared.clear i k e (omega (arith, bi, count)) (omega (arith, bk, count)) (λ q. ne (sym q));
    }

    pub standard_basis : IsStandardBasis r w (IsInModule r w rows) new
    standard_basis =
        let same : rows_of r (entry r new) last.bi ≡ rows_of r (entry r new) (flat_in r ring new ni) = fun_ext (λ i. fun_ext (λ t. same_element r _ _ refl)) in
        is_basis rows new ri ni standard
        (λ i l. subst (λ v. Reached S (length rows) w (rows_of r (entry r rows) rows_in) (v i)) same (reaches_all r ring w rows list rows_in list_in list_into _ (last.into i l)))
        (λ i l. subst (λ v. Reached S (length new) w v (rows_of r (entry r rows) rows_in i)) same (reaches_all r ring w new list last.bi list_in last.back _ (list_back i l)))
