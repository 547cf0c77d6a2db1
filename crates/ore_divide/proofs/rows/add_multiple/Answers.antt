use Rattle.std.proofs.Common.{ℕ, ◌+◌, length, subst, refl, ap₂, ◌∙◌, arith}
use Rattle.ring_core.specs.Coeffs.{coeff}
use Rattle.ring_core.specs.Written.{IsWritten}
use Rattle.ring_core.proofs.Coefficients.{elems_set}
use Rattle.ring_core.proofs.Terms.{terms_added, no_terms}
use Rattle.ring_core.proofs.Written.{written_more, next_place}
use Rattle.ore_divide.specs.steps.Sides.{term_on}
use Rattle.ore_divide.proofs.Sides.{term_past, term_none}
use Rattle.ore_divide.proofs.rows.add_multiple.Goals as goal

pub loop-j-preserved : goal.loop-j-preserved
loop-j-preserved g c =
    let k = c.args.field.now in
    let r = g.K.Field.ops k in
    let before = c.args.out.now in
    let out = c.loop-j.out in
    let i = c.args.k in
    let j = c.loop-j.j in
    let held = c.loop-j.invariant in
    let terms : ℕ → g.row.K-Elem.Denot = λ j. r.add (coeff r before (i + j)) (term_on c.args.side r (g.K.FrobField.frob_ops k).frob c.args.c i c.args.row.now j) in
    let old = c.coeff_at-old.ensures.value ∙ next_place r.zero i j terms before out held.written in
    record {
      elems = elems_set r out (i + j) _ held.elems c.add-sum.ensures.elem;
      written = written_more r.zero i j (i + j) terms before out _ held.written refl (omega arith) (c.add-sum.ensures.value ∙ ap₂ r.add old c.term_at.ensures.value);
    }

pub returns-then-equal-clause-added : goal.returns-then-equal-clause-added
returns-then-equal-clause-added g c =
    let k = c.args.field.now in
    let r = g.K.Field.ops k in
    let f = g.K.FrobField.frob_ops k in
    let field = g.met.K.Field.laws k in
    let row = c.args.row.now in
    let none = field.ring.equal.same_eq _ _ c.requires.factor field.ring.closed.zero_in cc in
    no_terms r field.ring c.args.k (term_on c.args.side r f.frob c.args.c c.args.k row) c.args.out.now c.requires.out
    (λ j. term_none r (g.K.Field.inv_of k) _ f field (g.met.K.FrobField.frob_laws k) c.args.c c.args.k row c.requires.row c.requires.factor c.args.side j none)

pub returns-clause-added : goal.returns-clause-added
returns-clause-added g c =
    let k = c.args.field.now in
    let r = g.K.Field.ops k in
    let f = g.K.FrobField.frob_ops k in
    let field = g.met.K.Field.laws k in
    let before = c.args.out.now in
    let row = c.args.row.now in
    let i = c.args.k in
    let term = term_on c.args.side r f.frob c.args.c i row in
    terms_added r field.ring i (length row) term before c.loop-j.out c.requires.out
    (subst (λ n. IsWritten r.zero i n (λ j. r.add (coeff r before (i + j)) (term j)) before c.loop-j.out) (omega arith) c.loop-j.invariant.written)
    (term_past r (g.K.Field.inv_of k) _ f field (g.met.K.FrobField.frob_laws k) c.args.c i row c.requires.row c.requires.factor c.args.side)
