use Rattle.std.proofs.Common.{◌≡◌, ◌+◌, ◌<◌, ℕ, List, length, [], refl, sym, ap, ap₂, ◌∙◌, subst, arith}
use Rattle.std.proofs.Math.Nat.{mul-pos}
use Rattle.std.proofs.lemmas.List.{get_or_read_under}
use Rattle.ring_core.specs.Ring.{RingOps}
use Rattle.ring_core.specs.Coeffs.{are_elems}
use Rattle.ring_core.specs.Powers.{power_of}
use Rattle.ring_core.specs.Twisted.{twisted_ops}
use Rattle.linear_algebra.specs.Linear.{row_at, are_rows}
use Rattle.motive_coords.specs.OverT.{base_parts}
use Rattle.poly_reduce.specs.Matrices.{IsRowBasis, IsRelationRow}
use Rattle.frobenius_rel.specs.Relation.{frobenius}
use Rattle.frobenius_rel.specs.steps.FirstRelation.{IsFirstRelation}
use Rattle.frobenius_rel.proofs.FrobeniusTimes.{motive_row}
use Rattle.frobenius_rel.proofs.PowerRows.{search_width, search_shape, search_more, search_found, search_ends}
use Rattle.frobenius_rel.proofs.search.first_relation.Goals as goal

-- a basis of relations over the base field, and at the width, that are meant
at_base : {X B : Type 0} (ops : X → RingOps B) (t u : X) (w n : ℕ) (rows basis : List (List (List B))) → t ≡ u → w ≡ n
    → IsRowBasis (twisted_ops (ops t) (λ c i. c)) (length rows) (IsRelationRow (twisted_ops (ops t) (λ c i. c)) w rows) basis
    → IsRowBasis (twisted_ops (ops u) (λ c i. c)) (length rows) (IsRelationRow (twisted_ops (ops u) (λ c i. c)) n rows) basis
at_base ops t u w n rows basis e l s =
    subst (λ m. IsRowBasis (twisted_ops (ops u) (λ c i. c)) (length rows) (IsRelationRow (twisted_ops (ops u) (λ c i. c)) m rows) basis) l
    (subst (λ b. IsRowBasis (twisted_ops (ops b) (λ c i. c)) (length rows) (IsRelationRow (twisted_ops (ops b) (λ c i. c)) w rows) basis) e s)

pub motive_over_t-requires-clause-count : goal.motive_over_t-requires-clause-count
motive_over_t-requires-clause-count g c = ap length c.deref.ensures.value ∙ c.loop.invariant.search.1.next.count

pub motive_over_t-requires-clause-elems : goal.motive_over_t-requires-clause-elems
motive_over_t-requires-clause-elems g c =
    ap (are_elems (twisted_ops (g.K.Field.ops c.args.field.now) (λ c i. c))) c.deref.ensures.value ∙ c.loop.invariant.search.1.next.elems

pub push-requires : goal.push-requires
push-requires g c =
    let field = c.args.field.now in
    let base = g.K.FrobField.base_of field in
    search_width _ _ _ _ _ (g.met.K.Field.laws field) (g.met.K.Base.Field.laws base) (g.met.K.FrobField.frob_laws field) c.args.phi.now c.loop.invariant.search.0
    c.loop.counter c.loop.rows.rows c.loop.power.items c.in_ok-row.row.items c.loop.invariant.search.1
    (c.in_ok-row.ensures ∙ ap (base_parts (g.K.Field.ops field) (g.K.Base.Field.ops base) (g.K.FrobField.frob_ops field)) c.deref.ensures.value)
    ∙ sym c.requires.width ∙ sym c.loop.invariant.width

pub kernel-requires-clause-width : goal.kernel-requires-clause-width
kernel-requires-clause-width g c =
    let pos = mul-pos c.requires.module.rank_pos (g.met.K.FrobField.frob_laws c.args.field.now).degree_pos in
    omega (arith, c.requires.width, c.in_ok-push.ensures.width, c.loop.invariant.width, pos)

pub kernel-requires-clause-rows : goal.kernel-requires-clause-rows
kernel-requires-clause-rows g c =
    let field = c.args.field.now in
    let base = g.K.FrobField.base_of field in
    ap₂ (λ t w. are_rows (twisted_ops (g.K.Base.Field.ops t) (λ c i. c)) w c.push.new.self.rows) c.base.ensures (c.in_ok-push.ensures.width ∙ c.loop.invariant.width ∙ c.requires.width)
    ∙ search_shape _ _ _ _ _ (g.met.K.Field.laws field) (g.met.K.Base.Field.laws base) (g.met.K.FrobField.frob_laws field) c.args.phi.now c.loop.invariant.search.0
    c.loop.counter c.loop.rows.rows c.loop.power.items c.in_ok-row.row.items c.loop.invariant.search.1
    (c.in_ok-row.ensures ∙ ap (base_parts (g.K.Field.ops field) (g.K.Base.Field.ops base) (g.K.FrobField.frob_ops field)) c.deref.ensures.value)
    c.push.new.self.rows c.in_ok-push.ensures.rows

pub times_frobenius-requires-clause-list : goal.times_frobenius-requires-clause-list
times_frobenius-requires-clause-list g c =
    let r = g.K.Field.ops c.args.field.now in
    let f = g.K.FrobField.frob_ops c.args.field.now in
    motive_row r f.frob c.args.phi.now (power_of (twisted_ops r f.frob) (frobenius r f) c.loop.counter) c.loop.power.items c.loop.invariant.search.1.next

pub unreachable-requires : goal.unreachable-requires
unreachable-requires g c =
    let field = c.args.field.now in
    let e : c.loop.counter ≡ c.args.width + 1 = omega (arith, c.loop-test.false, c.loop.auto.counter-end) in
    search_ends _ _ _ _ _ (g.met.K.Field.laws field) (g.met.K.Base.Field.laws (g.K.FrobField.base_of field)) (g.met.K.FrobField.frob_laws field)
    c.args.phi.now c.loop.invariant.search.0 c.loop.counter c.loop.rows.rows c.loop.power.items c.loop.invariant.search.1 (e ∙ ap (λ w. w + 1) c.requires.width)

pub returns-then-len-gt0 : goal.returns-then-len-gt0
returns-then-len-gt0 g c =
    let field = c.args.field.now in
    let base = g.K.FrobField.base_of field in
    let r = g.K.Field.ops field in
    let f = g.K.FrobField.frob_ops field in
    let basis = c.in_ok-basis.basis.rows in
    let more = c.push.new.self.rows in
    let listed = c.as_slice.result.now in
    let some : 0 < length basis = omega (arith, c.len.ensures, c.if-len-gt0.true) in
    let first = c.in_ok-first.ensures ∙ c.as_slice-then-len-gt0.ensures
    ∙ get_or_read_under listed 0 (length listed) c.index-as_slice-0.result [] c.index-as_slice-0.is (subst (λ t. 0 < length t) (sym c.as_slice.ensures) some) refl
    ∙ ap (λ t. row_at t 0) c.as_slice.ensures in
    subst (IsFirstRelation r (g.K.Base.Field.ops base) f c.args.phi.now) (sym first)
    (search_found _ _ _ _ _ (g.met.K.Field.laws field) (g.met.K.Base.Field.laws base) (g.met.K.FrobField.frob_laws field)
    c.args.phi.now c.loop.invariant.search.0 c.loop.counter c.loop.rows.rows c.loop.power.items c.in_ok-row.row.items
    c.loop.invariant.search.1 (c.in_ok-row.ensures ∙ ap (base_parts r (g.K.Base.Field.ops base) f) c.deref.ensures.value) more c.in_ok-push.ensures.rows basis
    (at_base g.K.Base.Field.ops _ base _ _ more basis c.base.ensures (c.in_ok-push.ensures.width ∙ c.loop.invariant.width ∙ c.requires.width) c.in_ok-basis.ensures.basis) some)

pub loop-preserved : goal.loop-preserved
loop-preserved g c =
    let field = c.args.field.now in
    let base = g.K.FrobField.base_of field in
    let basis = c.in_ok-basis.basis.rows in
    let more = c.push.new.self.rows in
    let width = c.in_ok-push.ensures.width ∙ c.loop.invariant.width in
    let none : length basis ≡ 0 = omega (arith, c.len.ensures, c.if-len-gt0.false) in
    record {
      width = width;
      search = (
        c.loop.invariant.search.0,
        search_more _ _ _ _ _ (g.met.K.Field.laws field) (g.met.K.Base.Field.laws base) (g.met.K.FrobField.frob_laws field)
            c.args.phi.now c.loop.invariant.search.0 c.loop.counter c.loop.rows.rows c.loop.power.items c.in_ok-row.row.items
            c.loop.invariant.search.1 (c.in_ok-row.ensures ∙ ap (base_parts (g.K.Field.ops field) (g.K.Base.Field.ops base) (g.K.FrobField.frob_ops field)) c.deref.ensures.value) more c.in_ok-push.ensures.rows basis
            (at_base g.K.Base.Field.ops _ base _ _ more basis c.base.ensures (width ∙ c.requires.width) c.in_ok-basis.ensures.basis) none c.in_ok-matrix.matrix.rows c.in_ok-matrix.ensures.rows c.in_ok-power-2.power.items c.in_ok-power-2.ensures,
      );
    }
