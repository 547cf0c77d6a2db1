use Rattle.std.proofs.Common.{◌≡◌, false, sym, ap, subst, ◌∙◌}
use Rattle.residue_field.specs.Base.{ops_of}
use Rattle.residue_field.specs.Top.{ops_of_top, frob_of_top}
use Rattle.hom_space.specs.Full.{IsFullList}
use Rattle.kept_lists.specs.Pairs.{has_pair, pairs_of}
use Rattle.statement_work.proofs.FullKept.{pairs_then, full_then}
use Rattle.statement_work.proofs.OneConstant.{kept_agree}
use Rattle.statement_work.proofs.lists.of_full.Goals as goal

pub returns-in_err-same_constant-clause-counted : goal.returns-in_err-same_constant-clause-counted
returns-in_err-same_constant-clause-counted c = λ count there.
    absurd (kept_agree c.args.t.now c.args.phi.now c.args.psi.now c.args.kept.now c.requires.source c.requires.target c.requires.lists there c.in_err-same_constant.ensures.stop.0)

pub returns-clause-lists : goal.returns-clause-lists
returns-clause-lists c =
    let t = c.args.t.now in
    let members = subst (IsFullList (ops_of_top t) (ops_of t.base) (frob_of_top t) c.args.phi.now c.args.psi.now) (sym c.from_vec-members.ensures) c.in_ok-list.ensures in
    full_then c.args.phi.now c.args.psi.now c.args.kept.now c.room.new.self c.keep.new.self _ c.in_ok-source.ensures c.in_ok-target.ensures c.in_ok-room.ensures c.in_ok-keep.ensures.ok
    (ops_of_top t) (ops_of t.base) (frob_of_top t) c.requires.lists c.requires.source c.requires.target c.in_ok-same_constant.ensures.equal members

pub returns-clause-pairs : goal.returns-clause-pairs
returns-clause-pairs c =
    let t = c.args.t.now in
    let new : has_pair (ops_of_top t) c.args.phi.now c.args.psi.now (pairs_of c.args.kept.now) ≡ false = sym c.in_default.ensures.kept in
    pairs_then c.args.phi.now c.args.psi.now c.args.kept.now c.room.new.self c.keep.new.self _ c.in_ok-source.ensures c.in_ok-target.ensures c.in_ok-room.ensures c.in_ok-keep.ensures.ok (ops_of_top t) new
