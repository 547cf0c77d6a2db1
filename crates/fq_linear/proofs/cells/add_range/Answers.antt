use Rattle.fq_linear.proofs.Places.{elems_range, range_inside, range_outside}
use Rattle.fq_linear.proofs.cells.add_range.Goals as goal

pub add_scaled-requires-clause-row : goal.add_scaled-requires-clause-row
add_scaled-requires-clause-row g c = elems_range (g.F.Field.ops c.args.f.now) (g.met.F.Field.laws c.args.f.now).ring c.args.row.now c.args.a c.args.b c.requires.row

pub returns-then-a-b-clause-inside : goal.returns-then-a-b-clause-inside
returns-then-a-b-clause-inside g c =
    range_inside (g.F.Field.ops c.args.f.now) (g.met.F.Field.laws c.args.f.now).ring c.args.a c.args.b c.args.c c.args.row.now c.args.out.now c.add_scaled.new.out
    c.requires.out c.requires.factor c.add_scaled.ensures.below c.add_scaled.ensures.added

pub returns-then-a-b-clause-outside : goal.returns-then-a-b-clause-outside
returns-then-a-b-clause-outside g c =
    range_outside (g.F.Field.ops c.args.f.now) (g.met.F.Field.laws c.args.f.now).ring c.args.a c.args.b c.args.c c.args.row.now c.args.out.now c.add_scaled.new.out
    c.requires.out c.requires.factor c.add_scaled.ensures.below c.add_scaled.ensures.added
