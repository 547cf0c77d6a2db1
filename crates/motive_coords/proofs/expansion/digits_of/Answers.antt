use Rattle.std.proofs.Common.{length, sym, subst, arith}
use Rattle.motive_coords.proofs.Expansions.{IsPart, part_start, part_more, part_done, quotient_less}
use Rattle.motive_coords.proofs.expansion.digits_of.Goals as goal

pub loop-alloc-init : goal.loop-alloc-init
loop-alloc-init g c =
    let field = c.args.field.now in
    let r = g.K.Field.ops field in
    let inv = g.K.Field.inv_of field in
    let base = g.K.Base.Field.ops (g.K.FrobField.base_of field) in
    let f = g.K.FrobField.frob_ops field in
    let laws = g.met.K.Field.laws field in
    let frob_laws = g.met.K.FrobField.frob_laws field in
    subst (λ t. IsPart r inv base f laws frob_laws c.args.letter.now c.args.u.now t (length c.new-digits.result.items) c.new-digits.result.items) (sym c.in_ok-rest.ensures.value)
    (subst (λ t. IsPart r inv base f laws frob_laws c.args.letter.now c.args.u.now c.args.u.now (length t) t) (sym c.new-digits.ensures.items)
    (part_start r inv base f laws frob_laws c.args.letter.now c.requires.letter c.requires.long c.args.u.now c.requires.elem))

pub loop-alloc-smaller : goal.loop-alloc-smaller
loop-alloc-smaller g c =
    let field = c.args.field.now in
    quotient_less _ _ _ _ (g.met.K.Field.laws field) (g.met.K.FrobField.frob_laws field) c.args.letter.now c.requires.letter c.requires.long _ _ _
    c.loop-alloc.invariant.rest_in (omega (arith, c.len.ensures, c.loop-alloc-test.true)) c.in_ok-division.ensures

pub loop-alloc-preserved : goal.loop-alloc-preserved
loop-alloc-preserved g c =
    let field = c.args.field.now in
    part_more _ _ _ _ (g.met.K.Field.laws field) (g.met.K.FrobField.frob_laws field) c.args.letter.now c.requires.letter c.requires.long _ _ _ _ _ _
    c.requires.elem c.loop-alloc.invariant c.in_ok-division.ensures c.in_ok-push.ensures.items

pub returns : goal.returns
returns g c =
    let field = c.args.field.now in
    part_done _ _ _ _ (g.met.K.Field.laws field) (g.met.K.FrobField.frob_laws field) c.args.letter.now c.requires.letter c.requires.long _ _ _
    (omega (arith, c.len.ensures, c.loop-alloc-test.false)) c.loop-alloc.invariant
