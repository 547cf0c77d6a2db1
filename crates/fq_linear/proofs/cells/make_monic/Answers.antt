use Rattle.std.proofs.Common.{sym, ◌∙◌, ap}
use Rattle.fq_linear.proofs.Places.{same_tells, monic_already, monic_scaled}
use Rattle.fq_linear.proofs.cells.make_monic.Goals as goal

pub returns-then-equal-clause-monic : goal.returns-then-equal-clause-monic
returns-then-equal-clause-monic g c =
    let r = g.F.Field.ops c.args.f.now in
    let ring = (g.met.F.Field.laws c.args.f.now).ring in
    monic_already r ring c.args.row.now c.args.l c.requires.row
    (sym c.coeff_at-top.ensures.value ∙ same_tells r ring _ _ _ c.coeff_at-top.ensures.elem c.one.ensures.elem c.equal.ensures c.if-equal.true ∙ c.one.ensures.value)

pub returns-clause-monic : goal.returns-clause-monic
returns-clause-monic g c =
    let f = c.args.f.now in
    let r = g.F.Field.ops f in
    let found = ap (g.F.Field.inv_of f) (sym c.coeff_at-top.ensures.value) ∙ sym c.inv.ensures.value ∙ c.in-Some.is in
    monic_scaled r (g.F.Field.inv_of f) (g.met.F.Field.laws f) c.args.row.now c.scale_first.new.row c.args.l c.in-Some.inverse c.requires.row c.requires.top found c.scale_first.ensures.written
