use Rattle.std.proofs.Common.{◌≡◌, ◌+◌, ◌<◌, length, subst, refl, ap, ap₂, ◌∙◌, arith}
use Rattle.std.proofs.lemmas.List.{get_or_read}
use Rattle.ring_core.specs.Coeffs.{coeff}
use Rattle.ring_core.specs.Written.{IsWritten}
use Rattle.ring_core.proofs.Coefficients.{elems_set, elem_read}
use Rattle.ring_core.proofs.Written.{written_more, next_place}
use Rattle.ring_core.proofs.RowSteps.{row_added}
use Rattle.ring_core.proofs.field.Field.add_row.Goals as goal

pub mul-term-requires-clause-right : goal.mul-term-requires-clause-right
mul-term-requires-clause-right g c =
    let r = g.Self.Field.ops c.args.self.now in
    let row = c.args.row.now in
    let j = c.loop-j.j in
    let inside : j < length row = omega arith in
    ap r.is_elem (get_or_read row j _ inside c.index-row-j.is r.zero)
    ∙ elem_read r row (g.Self.Field.ring c.args.self.now).closed.zero_in c.requires.row j

pub add-requires-clause-left : goal.add-requires-clause-left
add-requires-clause-left g c =
    let r = g.Self.Field.ops c.args.self.now in
    let out = c.loop-j.out in
    let i = c.args.i in
    let j = c.loop-j.j in
    let inside : i + j < length out = omega arith in
    ap r.is_elem (get_or_read out (i + j) _ inside c.index-out-i.is r.zero)
    ∙ elem_read r out (g.Self.Field.ring c.args.self.now).closed.zero_in c.loop-j.invariant.elems (i + j)

pub loop-j-preserved : goal.loop-j-preserved
loop-j-preserved g c =
    let r = g.Self.Field.ops c.args.self.now in
    let before = c.args.out.now in
    let out = c.loop-j.out in
    let row = c.args.row.now in
    let i = c.args.i in
    let j = c.loop-j.j in
    let inside : j < length row = omega arith in
    let room : i + j < length out = omega arith in
    let member : c.index-row-j.result ≡ coeff r row j = get_or_read row j _ inside c.index-row-j.is r.zero in
    let old : c.index-out-i.result ≡ coeff r before (i + j) =
    get_or_read out (i + j) _ room c.index-out-i.is r.zero ∙ next_place r.zero i j _ before out c.loop-j.invariant.written in
    record {
      elems = elems_set r out (i + j) _ c.loop-j.invariant.elems c.add.ensures.elem;
      written =
          written_more r.zero i j (i + j) (λ k. r.add (coeff r before (i + k)) (r.mul c.args.c (coeff r row k))) before out _ c.loop-j.invariant.written refl room
          (c.add.ensures.value ∙ ap₂ r.add old (c.mul-term.ensures.value ∙ ap (r.mul c.args.c) member));
    }

pub returns-clause-added : goal.returns-clause-added
returns-clause-added g c =
    let r = g.Self.Field.ops c.args.self.now in
    let before = c.args.out.now in
    let row = c.args.row.now in
    let i = c.args.i in
    let all : c.loop-j.j ≡ length row = omega arith in
    row_added r (g.Self.Field.ring c.args.self.now) i c.args.c row before c.loop-j.out c.requires.factor c.requires.out
    (subst (λ n. IsWritten r.zero i n (λ k. r.add (coeff r before (i + k)) (r.mul c.args.c (coeff r row k))) before c.loop-j.out) all c.loop-j.invariant.written)
