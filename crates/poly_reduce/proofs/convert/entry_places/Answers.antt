use Rattle.std.proofs.Common.{arith}
use Rattle.poly_reduce.proofs.Views.{places_inside, places_past}
use Rattle.poly_reduce.proofs.convert.entry_places.Goals as goal

pub returns-then-j-len-clause-inside : goal.returns-then-j-len-clause-inside
returns-then-j-len-clause-inside c = λ e l. places_inside c.args.len c.args.w c.args.j e (omega arith) (omega (arith, l))

pub returns-then-j-len-clause-past : goal.returns-then-j-len-clause-past
returns-then-j-len-clause-past c = λ e l. places_past c.args.len c.args.w c.args.j e (omega arith) (omega arith) (omega (arith, l))
