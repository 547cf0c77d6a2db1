use Rattle.std.proofs.Common.{◌≡◌, ◌+◌, ◌-◌, true, false, length, sym, ap, ◌∙◌, arith, length-take-le}
use Rattle.ring_core.specs.Coeffs.{coeff}
use Rattle.ring_core.proofs.Coefficients.{trim_found, trim_passed}
use Rattle.ring_core.proofs.lists.trimmed_len.Goals as goal

pub returns-then-not-equal-clause-kept : goal.returns-then-not-equal-clause-kept
returns-then-not-equal-clause-kept g c =
    let r = g.K.Field.ops c.args.field.now in
    let list = c.args.list.now in
    let i = c.loop-i.i in
    let other : r.same (coeff r list (i - 1)) r.zero ≡ false = cc in
    trim_found r list i (omega arith) (omega arith) other c.loop-i.invariant

pub returns-then-not-equal-clause-value : goal.returns-then-not-equal-clause-value
returns-then-not-equal-clause-value g c =
    let list = c.args.list.now in
    let i = c.loop-i.i in
    sym (length-take-le (i - 1 + 1) list (omega arith)) ∙ ap length (returns-then-not-equal-clause-kept g c)

pub loop-i-preserved : goal.loop-i-preserved
loop-i-preserved g c =
    let r = g.K.Field.ops c.args.field.now in
    let list = c.args.list.now in
    let i = c.loop-i.i in
    let zero : r.same (coeff r list (i - 1)) r.zero ≡ true = cc in
    trim_passed r list i (omega arith) (omega arith) zero c.loop-i.invariant
