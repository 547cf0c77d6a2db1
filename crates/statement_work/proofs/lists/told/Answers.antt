use Rattle.std.proofs.Common.{arith}
use Rattle.statement_work.proofs.FewMembers.{count_fits}
use Rattle.statement_work.proofs.lists.told.Goals as goal

pub overflow_cast-members : goal.overflow_cast-members
overflow_cast-members c =
    let few = count_fits c.args.t.now c.args.phi.now c.args.psi.now c.args.list.now c.requires in
    omega (arith, few)
