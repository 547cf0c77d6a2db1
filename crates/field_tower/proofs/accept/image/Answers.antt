use Rattle.std.proofs.Common.{sym, ap, ap₂, subst, ◌∙◌}
use Rattle.ring_core.specs.Ring.{IsElem}
use Rattle.ring_core.proofs.PowerLaws.{power_in}
use Rattle.field_tower.specs.steps.Kernel.{image_of}
use Rattle.field_tower.proofs.accept.image.Goals as goal

pub add-requires-clause-left : goal.add-requires-clause-left
add-requires-clause-left g c =
    let t = g.A.Algebra.ops c.args.algebra.now in
    subst (IsElem t) (sym c.requires.power) (power_in t (g.met.A.Algebra.laws c.args.algebra.now).ring c.args.x c.args.q c.requires.elem)

pub returns-in-Power-clause-elem : goal.returns-in-Power-clause-elem
returns-in-Power-clause-elem g c =
    let t = g.A.Algebra.ops c.args.algebra.now in
    subst (IsElem t) (sym c.requires.power) (power_in t (g.met.A.Algebra.laws c.args.algebra.now).ring c.args.x c.args.q c.requires.elem)

pub returns-in-Difference-clause-value : goal.returns-in-Difference-clause-value
returns-in-Difference-clause-value g c =
    let t = g.A.Algebra.ops c.args.algebra.now in
    c.add.ensures.value ∙ ap₂ t.add c.requires.power c.neg.ensures.value
    ∙ ap (λ b. image_of t c.args.q b c.args.x) (sym c.in-Difference.is)
