use Rattle.std.proofs.Common.{◌*◌, ◌≤◌, sym, ap, subst, one-mul, ◌∙◌}
use Rattle.std.proofs.Math.Nat.{pow-zero, pow-suc}
use Rattle.ring_core.specs.Powers.{power_of}
use Rattle.residue_field.specs.Base.{size_of}
use Rattle.residue_field.specs.Top.{ops_of_top}
use Rattle.field_tower.proofs.BaseValues.{size_large}
use Rattle.tests_modules.proofs.invariants.invariant.Goals as goal

pub j-requires-clause-size : goal.j-requires-clause-size
j-requires-clause-size c = subst (λ n. 2 ≤ n) (sym (c.q.ensures.value ∙ ap size_of c.base.ensures)) (size_large c.args.field.now.base)

pub j-requires-clause-power : goal.j-requires-clause-power
j-requires-clause-power c = λ x p.
    let q = size_of c.args.field.now.base in
    ap (power_of (ops_of_top c.args.field.now) x)
    (pow-suc q 0 ∙ ap (λ n. n * q) (pow-zero q) ∙ one-mul q ∙ sym (c.q.ensures.value ∙ ap size_of c.base.ensures))
