use Rattle.std.proofs.Common.{[], ◌∷◌, set, length-set, get_or-set_same, get_or-set_other, ap, ap₂, ◌∙◌, arith}
use Rattle.ring_core.specs.Coeffs.{coeff, is_canonical}
use Rattle.flat_modules.specs.Flat.{shifted}
use Rattle.flat_reduce.proofs.Reading.{read_elems}
use Rattle.flat_reduce.proofs.RowSteps.{flat_set}
use Rattle.flat_reduce.proofs.Reading.{read_coeff}
use Rattle.popov_basis.proofs.Dividing.{one_at}
use Rattle.popov_basis.proofs.divide.add_term.Goals as goal

pub add_shifted-requires-clause-list : goal.add_shifted-requires-clause-list
add_shifted-requires-clause-list g c =
    read_elems (g.F.Field.ops c.args.f.now) c.args.by.now c.requires.by c.args.q _ c.index-by-q.result c.requires.number (c.into_vec.ensures ∙ c.replace-row.ensures.value)

pub returns-clause-flat : goal.returns-clause-flat
returns-clause-flat g c =
    let r = g.F.Field.ops c.args.f.now in
    let empty = c.replace-row.ensures.after ∙ c.from_vec.ensures ∙ c.new.ensures.items in
    flat_set r _ c.args.q c.from_vec-2.result (flat_set r c.args.by.now c.args.q c.replace-row.new.dest c.requires.by (ap (is_canonical r) empty))
    (ap (is_canonical r) c.from_vec-2.ensures ∙ c.in_ok-sum.ensures.flat)

pub returns-clause-added : goal.returns-clause-added
returns-clause-added g c =
    let r = g.F.Field.ops c.args.f.now in
    let ring = (g.met.F.Field.laws c.args.f.now).ring in
    let by = c.args.by.now in
    let q = c.args.q in
    let half = set by q c.replace-row.new.dest in
    let x = c.from_vec-2.result in
    let a = length-set by q c.replace-row.new.dest in
    let b = length-set half q x in
    record {
      len = b ∙ a;
      here = λ s.
          ap (λ u. coeff r u s) (get_or-set_same half q x [] (omega (arith, a, c.requires.number)) ∙ c.from_vec-2.ensures) ∙ c.in_ok-sum.ensures.added s
          ∙ ap₂ (λ y z. r.add y (r.mul c.args.c z))
          (read_coeff r by q s _ c.index-by-q.result c.requires.number (c.into_vec.ensures ∙ c.replace-row.ensures.value))
          (ap (λ u. shifted r c.args.e (coeff r u) s) (c.deref.ensures.value ∙ c.in_ok-one.ensures ∙ ap (λ o. o ∷ []) c.one.ensures.value) ∙ one_at r ring c.args.e s);
      others = λ i s ne. ap (λ u. coeff r u s) (get_or-set_other half q i x [] ne ∙ get_or-set_other by q i c.replace-row.new.dest [] ne);
    }
