use Rattle.std.proofs.Common.{◌≡◌, length, sym, ap, subst, ◌∙◌, arith}
use Rattle.flat_modules.specs.Flat.{zero_rows, IsBasis, IsRelationOf, IsOfReduction}
use Rattle.flat_reduce.specs.steps.Turns.{Turns}
use Rattle.flat_reduce.proofs.KernelBasis.{kernel_basis}
use Rattle.flat_reduce.proofs.Reduction.{picked_listed}
use Rattle.flat_reduce.proofs.Pushed.{unsettled_start}
use Rattle.flat_reduce.proofs.kernel.settled_kernel.Goals as goal

pub settle_all-requires-clause-unsettled : goal.settle_all-requires-clause-unsettled
settle_all-requires-clause-unsettled g c = unsettled_start c.args.w c.args.slot.now c.args.image.now c.requires.free

pub returns-clause-basis : goal.returns-clause-basis
returns-clause-basis g c =
    let f = c.args.f.now in
    let r = g.F.Field.ops f in
    let m = c.args.image.now in
    let done = c.in_ok-settle_all.ensures in
    let image = c.settle_all.new.image in
    let left = c.settle_all.new.left in
    let same : length image ≡ length m = omega arith in
    let basis = kernel_basis r (g.F.Field.inv_of f) (g.met.F.Field.laws f) c.args.w m c.args.left.now c.args.columns.now image left c.settle_all.new.columns c.settle_all.new.slot (omega (arith, c.requires.width))
    c.requires.images c.requires.lefts done.images done.lefts c.requires.same_len same c.requires.unit done.settled
    (subst (λ n. Turns r c.args.w n m c.args.left.now c.args.columns.now image left c.settle_all.new.columns) c.requires.same_len done.turned) in
    subst (λ v. IsBasis r (length m) (IsRelationOf r c.args.w m) v) (ap (zero_rows image left) (sym same) ∙ sym c.in_ok-at_zeros.ensures) basis

pub returns-clause-source : goal.returns-clause-source
returns-clause-source g c =
    let f = c.args.f.now in
    let r = g.F.Field.ops f in
    let m = c.args.image.now in
    let done = c.in_ok-settle_all.ensures in
    let image = c.settle_all.new.image in
    let left = c.settle_all.new.left in
    let same : length image ≡ length m = omega arith in
    let same_left : length left ≡ length m = omega (arith, c.requires.same_len) in
    subst (IsOfReduction r c.args.w m) (ap (zero_rows image left) (sym same) ∙ sym c.in_ok-at_zeros.ensures)
    (picked_listed r (g.F.Field.inv_of f) (g.met.F.Field.laws f) c.args.w m c.requires.images c.args.left.now c.args.columns.now image left c.settle_all.new.columns c.settle_all.new.slot
    c.requires.lefts c.requires.same_len c.requires.unit done.images done.lefts same same_left done.settled
    (subst (λ n. Turns r c.args.w n m c.args.left.now c.args.columns.now image left c.settle_all.new.columns) c.requires.same_len done.turned))
