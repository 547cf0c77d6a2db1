-- The first member of a full list is an isogeny.
use Rattle.std.proofs.Common.{◌≡◌, ◌<◌, ◌%◌, List, length, sym, ◌∙◌, ap, subst}
use Rattle.ring_core.specs.Ring.{RingOps}
use Rattle.ring_core.specs.Field.{FrobOps}
use Rattle.linear_algebra.specs.Linear.{row_at}
use Rattle.morphism.specs.Homomorphism.{IsHomomorphism}
use Rattle.central_coords.specs.Coordinates.{coordinate}
use Rattle.central_coords.proofs.Places.{Extension, coord_zero, place_low}
use Rattle.hom_space.specs.Full.{IsFullList}
use Rattle.isomorphism.specs.Isogeny.{IsFirstIsogeny}

pub first_isogeny : {E B : Type 0} {r : RingOps E} {base : RingOps B} {f : FrobOps E B} (o : Extension r base f) (phi psi : List E) (list : List (List E)) → IsFullList r base f phi psi list
    → (u : List E) → 0 < length list → u ≡ row_at list 0 → IsFirstIsogeny r base f phi psi u
first_isogeny {E} {B} {r} {base} {f} o phi psi list p u some e = record {
  nonzero = λ z. (p.leads 0 some).nonzero (ap (λ u. coordinate r f u (p.lead 0)) (sym e ∙ z) ∙ coord_zero o (p.lead 0 % f.degree) (place_low o (p.lead 0)));
  hom = subst (IsHomomorphism r f.frob phi psi) (sym e) (p.members 0 some);
  list = list;
  full = p;
  some = some;
  first = sym e;
}
